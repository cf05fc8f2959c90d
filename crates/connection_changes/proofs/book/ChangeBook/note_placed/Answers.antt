use Rattle.std.proofs.Common.{◌≡◌, Option, None, ap, ◌∙◌}
use Rattle.std.specs.Prelude.{length, option_copied, slice_index}
use Rattle.cluster_node.specs.declared.outcomes.Outcome.{Outcome}
use Rattle.event_trace.specs.Noting.{said_by}
use Rattle.run_report.specs.Splits.{sent_by}
use Rattle.connection_changes.specs.declared.sites.Arrived.{Arrived}
use Rattle.connection_changes.specs.Sites.{time_with}
use Rattle.connection_changes.specs.Books.{placed_of}
use Rattle.connection_changes.proofs.Clocked.{placed_more}
use Rattle.connection_changes.proofs.Kept.{unsent_noted}
use Rattle.connection_changes.proofs.book.ChangeBook.note_placed.Goals as goal

pub returns-in_ok-arrive-in-Arrive-Placed : goal.returns-in_ok-arrive-in-Arrive-Placed
returns-in_ok-arrive-in-Arrive-Placed c = λ past b.
    let s = said_by c.args.event.now (option_copied c.args.packet) c.args.outcome.now in
    let none : sent_by (length past) s.event s.outcome ≡ None = ap (λ (o : Outcome). sent_by (length past) s.event o) c.in-Arrive-Placed.is-1 in
    let told = c.in_ok-arrive-in-Arrive-Placed.ensures in
    unsent_noted c.note_unsent.result s past _ none
    (placed_more s past c.args.self.now.clocks c.arrive.new.self _ _ _ _ _ b.clocks c.in-Arrive-Placed.is-0 c.in-Arrive-Placed.is-1
    (λ j. told.times j ∙ ap (λ (a : Option Arrived). time_with a j (slice_index c.args.self.now.clocks.times.all.items j)) c.time_told.ensures) told.rest)
    (c.note_unsent.ensures.of_record past s none b.splits) (c.note_unsent.ensures.settled (placed_of past) b.placed)
