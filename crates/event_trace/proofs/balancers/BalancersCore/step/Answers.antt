use Rattle.std.proofs.Common.{◌∷◌, Ok, Option, subst}
use Rattle.std.specs.declared.alloc.AllocError.{AllocError}
use Rattle.cluster_node.specs.declared.packets.Packet.{Packet}
use Rattle.cluster_node.specs.declared.outcomes.Outcome.{Outcome}
use Rattle.event_trace.specs.Noting.{said_by}
use Rattle.cluster_core.proofs.Ordered.{stepped}
use Rattle.event_trace.proofs.balancers.BalancersCore.step.Goals as goal

pub returns : goal.returns
returns g c = λ past few st.
    let goes = stepped {E = AllocError} (λ s z. g.S.Scheme.pick s z) (λ h. g.H.FlowHash.plain h) c.args.setup.now.deployment c.setup.result.now c.catalogue.result.now past c.args.event (_) c.args.packet c.args.self.now.run c.step.new.self (Ok c.in_ok-outcome.outcome)
    c.setup.ensures.setup c.catalogue.ensures.catalogue c.as_ref-body.ensures.value (λ s. c.in_ok-outcome.ensures.verdict past few s) st.0 in
    let noted = subst (λ (p : Option Packet). g.N.Notes.are_of c.args.setup.now.asked (said_by c.args.event p c.in_ok-outcome.outcome ∷ past) c.note.new.self) c.as_ref-body.ensures.value (c.in_ok-note.ensures past st.1) in
    (goes.0, (goes.1, subst (λ (o : Outcome). g.N.Notes.are_of c.args.setup.now.asked (said_by c.args.event c.args.packet o ∷ past) c.note.new.self) goes.0 noted))
