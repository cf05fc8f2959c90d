use Rattle.std.proofs.Common.{arith, get_or}
use Rattle.cluster_node.specs.Rules.{Rules}
use Rattle.cluster_node.specs.declared.events.Event.TheVariants.{Install}
use Rattle.cluster_core.specs.Setups.{rules_for}
use Rattle.cluster_core.proofs.Nodes.{kept_first, kept_more, was_read}
use Rattle.cluster_core.proofs.replaying.replay_all.Goals as goal

pub loop-event-init : goal.loop-event-init
loop-event-init g c =
    let rules : Rules = rules_for (λ s z. g.S.Scheme.pick s z) (λ h. g.H.FlowHash.plain h) c.args.setup.now c.args.catalogue.now in
    kept_first (λ s z. g.S.Scheme.pick s z) rules c.args.packets.now c.args.events.now _ _ c.in_ok-outcomes.ensures.items (c.in_ok-run.ensures.stands c.args.catalogue.now)

pub loop-event-preserved : goal.loop-event-preserved
loop-event-preserved g c =
    let rules : Rules = rules_for (λ s z. g.S.Scheme.pick s z) (λ h. g.H.FlowHash.plain h) c.args.setup.now c.args.catalogue.now in
    kept_more (λ s z. g.S.Scheme.pick s z) rules c.args.packets.now c.args.events.now c.loop-event.event-index c.loop-event.outcomes.items c.push.new.self.items c.loop-event.run c.step.new.self (Install 0 0) _ c.in_ok-outcome.outcome
    c.loop-event-test.true (omega (arith, c.count_of.ensures, c.count_of.type_inv)) c.packet_at.ensures c.in_ok-push.ensures.items c.in_ok-outcome.ensures.verdict c.loop-event.invariant

pub step-requires-clause-read : goal.step-requires-clause-read
step-requires-clause-read g c = was_read c.args.packets.now c.requires.read (get_or c.args.events.now c.loop-event.event-index (Install 0 0)) _ c.packet_at.ensures
