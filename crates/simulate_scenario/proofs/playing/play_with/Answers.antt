use Rattle.std.proofs.Common.{[], List, reverse, subst, sym}
use Rattle.hash_laws.specs.Any.{plain_of}
use Rattle.cluster_node.specs.declared.events.LogEntry.{LogEntry}
use Rattle.cluster_node.specs.Records.{Judged}
use Rattle.cluster_core.specs.Deployed.{cluster_of, rules_of, IsBalanced}
use Rattle.cluster_core.specs.Runs.{RunStands, verdict}
use Rattle.event_trace.specs.Trace.{Trace}
use Rattle.named_scheme.specs.Picking.{pick_of}
use Rattle.node_part.specs.Parts.{of_part}
use Rattle.node_part.proofs.Orders.{part_orderly}
use Rattle.node_part.proofs.Parts.{none_of}
use Rattle.simulation.specs.Plans.{planned}
use Rattle.simulation.proofs.Joined.{whole_unanswered}
use Rattle.simulate_scenario.proofs.Parting.{part_told}
use Rattle.simulate_scenario.proofs.playing.play_with.Goals as goal

pub play_capture-outcome-requires-clause-fresh : goal.play_capture-outcome-requires-clause-fresh
play_capture-outcome-requires-clause-fresh g c =
    let part = c.args.run.now.setup.now in
    let asked = part.whole.asked in
    let rules = rules_of (λ s z. pick_of s z) (λ h. plain_of h) part.whole.deployment in
    let notes = subst (λ n. g.N.Notes.are_of asked [] n) (sym c.in-Ok.ensures.notes) c.requires.fresh in
    subst (λ b. Unit {0} × (RunStands (λ s z. pick_of s z) rules (of_part part.only []) b.run × g.N.Notes.are_of asked (of_part part.only []) b.notes)) (sym c.new-core.ensures)
    (tt, subst (λ (past : List LogEntry). RunStands (λ s z. pick_of s z) rules past c.in-Ok.balancers.run × g.N.Notes.are_of asked past c.in-Ok.balancers.notes) (sym (none_of part.only)) (c.in-Ok.ensures.run, notes))

pub play_capture-outcome-requires-clause-orderly : goal.play_capture-outcome-requires-clause-orderly
play_capture-outcome-requires-clause-orderly g c =
    let part = c.args.run.now.setup.now in
    part_orderly part.only (cluster_of (λ s z. pick_of s z) (λ h. plain_of h) part.whole.deployment) (record { sound = c.keep_order.ensures.sound; first = c.keep_order.ensures.first })

pub answer-requires-clause-balance : goal.answer-requires-clause-balance
answer-requires-clause-balance g c =
    let part = c.args.run.now.setup.now in
    let rules = rules_of (λ s z. pick_of s z) (λ h. plain_of h) part.whole.deployment in
    let past = of_part part.only c.in-Ok-outcome.played.play.trace.past in
    let run = subst (λ b. RunStands (λ s z. pick_of s z) rules past b.run) (sym c.into_core-balancers.ensures) c.in-Ok-outcome.ensures.stands.1.0 in
    subst (λ (t : Trace). IsBalanced (reverse t.past)) (sym c.of-ended.ensures.trace) (c.keep_balance.ensures.history past run)

pub answer-requires-clause-judged : goal.answer-requires-clause-judged
answer-requires-clause-judged g c =
    let part = c.args.run.now.setup.now in
    let rules = rules_of (λ s z. pick_of s z) (λ h. plain_of h) part.whole.deployment in
    subst (λ (t : Trace). Judged (verdict rules) t.past) (sym c.of-ended.ensures.trace)
    (part_told part.only (cluster_of (λ s z. pick_of s z) (λ h. plain_of h) part.whole.deployment) _ (planned c.args.run.now.plan) _ _ _ _ _ _ _ c.in-Ok-outcome.ensures.ok)

pub returns-clause-stopped : goal.returns-clause-stopped
returns-clause-stopped g c = whole_unanswered _ _ (planned c.args.run.now.plan) _ _ _ _ _ _ _ c.in-Ok-outcome.ensures.ok
