use Rattle.std.proofs.Common.{refl}
use Rattle.cluster_node.specs.Rules.{Rules}
use Rattle.cluster_core.specs.Setups.{rules_for}
use Rattle.thread_records.specs.declared.command.Command.TheVariants.{Offer}
use Rattle.thread_records.proofs.Losses.{keeps_on}
use Rattle.thread_roles.proofs.Goes.{goes_more}
use Rattle.std.specs.Prelude.{slice_get}
use Rattle.thread_roles.proofs.Counting.{counts_offer, read_at}
use Rattle.thread_roles.proofs.driving.offer.Goals as goal

pub returns-in-Ok-clause-counts : goal.returns-in-Ok-clause-counts
returns-in-Ok-clause-counts g c = λ read had.
    counts_offer (slice_get c.args.plan.assignment.packets.now c.args.packet) c.args.tally.now.lost c.count_arrival.new.tally.lost c.count_drop.new.tally.lost c.args.tally.now.shares c.count_arrival.new.tally.shares c.count_drop.new.tally.shares c.args.journal.now.outcomes c.arrive.new.journal.outcomes c.in-Ok.outcome
    (read_at c.args.plan.assignment.packets.now read c.args.packet) c.in-Ok.ensures.arrives c.count_arrival.ensures.lost c.count_drop.ensures.lost c.in-Ok.ensures.told had

pub returns-in-Ok-clause-going : goal.returns-in-Ok-clause-going
returns-in-Ok-clause-going g c = λ cs n places going.
    let rules : Rules = rules_for (λ s z. g.S.Scheme.pick s z) (λ h. g.H.FlowHash.plain h) c.args.plan.assignment.setup.now c.args.plan.assignment.catalogue.now in
    goes_more rules c.args.plan.assignment.packets.now cs n places (Offer c.args.packet) c.args.journal.now c.arrive.new.journal going (c.in-Ok.ensures.drives going.drives) c.in-Ok.ensures.command (keeps_on cs (Offer c.args.packet) c.args.journal.now.outcomes c.arrive.new.journal.outcomes refl c.in-Ok.ensures.lost going.kept) c.in-Ok.ensures.kept.0 c.in-Ok.ensures.kept.1
