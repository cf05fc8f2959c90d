use Rattle.std.proofs.Common.{ℕ, sym, ◌∙◌, subst, false}
use Rattle.std.specs.Prelude.{OnOk}
use Rattle.std.proofs.lemmas.Result.{on_ok_weaker}
use Rattle.cluster_node.specs.declared.events.Event.TheVariants.{Arrive, Serve}
use Rattle.cluster_node.specs.Records.{AreTold, with_told}
use Rattle.cluster_core.specs.Cluster.{newest_on}
use Rattle.node_part.specs.Parts.{of_part, part_judge, LeavesOthers}
use Rattle.node_part.proofs.Parts.{part_few}
use Rattle.node_part.proofs.Cores.{passed, kept_newest}
use Rattle.node_part.proofs.part.NodePartCore.pass.Goals as goal

pub returns : goal.returns
returns g c = λ past few st.
    let only = c.args.setup.now.only in
    let whole = c.args.setup.now.whole in
    let k = g.C.Core.cluster whole in
    let n = c.args.node in
    let come = Arrive n c.args.packet c.args.refused.now in
    let body = c.args.body.now in
    let q = c.pass.new.passed in
    let here = sym c.leaves_out.ensures ∙ c.if-leaves_out.false in
    subst (λ (v : ℕ). OnOk c.pass.result (AreTold (part_judge only k.judge) past come body (λ u. Serve n u v false) q
    × (LeavesOthers only (with_told past come body (λ u. Serve n u v false) q) × g.C.Core.stands whole (of_part only (with_told past come body (λ u. Serve n u v false) q)) c.pass.new.self)))
    (sym (kept_newest only k n past here))
    (on_ok_weaker c.pass.result
    (λ goes. passed only k.judge past come body (λ u. Serve n u (newest_on k n (of_part only past)) false) (λ l. g.C.Core.stands whole l c.pass.new.self) q here (λ w. here) st.0 goes)
    (c.pass.ensures (of_part only past) (part_few only past _ few) st.1))
