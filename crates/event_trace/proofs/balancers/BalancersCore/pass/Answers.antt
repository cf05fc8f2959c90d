use Rattle.std.proofs.Common.{ℕ, subst}
use Rattle.std.specs.Prelude.{OnOk, false}
use Rattle.std.proofs.lemmas.Result.{on_ok_weaker}
use Rattle.cluster_node.specs.declared.events.Event.TheVariants.{Arrive, Serve}
use Rattle.cluster_node.specs.Records.{with_told}
use Rattle.cluster_core.proofs.Passing.{passed_by}
use Rattle.event_trace.proofs.balancers.BalancersCore.pass.Goals as goal

pub returns : goal.returns
returns g c = λ past few st.
    let goes = passed_by (λ s z. g.S.Scheme.pick s z) (λ h. g.H.FlowHash.plain h) c.args.setup.now.deployment c.setup.result.now past c.args.node c.args.packet c.args.refused.now c.args.body.now c.args.self.now.run c.pass.new.self c.pass.new.passed c.setup.ensures.setup st.0 c.in_ok-pass.ensures.verdict in
    on_ok_weaker c.note_passed.result (λ noted. (goes.0, (goes.1, noted)))
    (subst (λ (v : ℕ). OnOk c.note_passed.result (g.N.Notes.are_of c.args.setup.now.asked (with_told past (Arrive c.args.node c.args.packet c.args.refused.now) c.args.body.now (λ w. Serve c.args.node w v false) c.pass.new.passed) c.note_passed.new.notes)) (c.newest-version.ensures past st) (c.note_passed.ensures past st.1))
