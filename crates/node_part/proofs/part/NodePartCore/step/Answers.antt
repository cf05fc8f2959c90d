use Rattle.std.proofs.Common.{sym, ap, ◌∙◌}
use Rattle.cluster_core.proofs.Nodes.{if_ok_map}
use Rattle.node_part.specs.Parts.{leaves_out, of_part}
use Rattle.node_part.proofs.Parts.{part_few}
use Rattle.node_part.proofs.Cores.{stepped}
use Rattle.node_part.proofs.part.NodePartCore.step.Goals as goal

pub returns : goal.returns
returns g c = λ past few st.
    let only = c.args.setup.now.only in
    let whole = c.args.setup.now.whole in
    let here = ap (leaves_out only) (sym c.node_of.ensures) ∙ sym c.leaves_out.ensures ∙ c.if-leaves_out.false in
    if_ok_map c.step.result
    (λ o goes. stepped only (g.C.Core.cluster whole).judge past c.args.event c.args.packet (λ l. g.C.Core.stands whole l c.step.new.self) o here st.0 goes)
    (c.step.ensures (of_part only past) (part_few only past _ few) st.1)
