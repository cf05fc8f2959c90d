use Rattle.std.specs.Prelude.{option_copied}
use Rattle.event_trace.specs.Noting.{said_by}
use Rattle.connection_changes.specs.Books.{placed_of}
use Rattle.connection_changes.proofs.Kept.{event_noted}
use Rattle.connection_changes.proofs.book.ChangeBook.note_any.Goals as goal

pub returns : goal.returns
returns c = λ past b.
    let s = said_by c.args.event.now (option_copied c.args.packet) c.args.outcome.now in
    let noted = c.in_ok-site.ensures in
    event_noted c.note-2.result s past c.args.self.now.splits.number c.in_ok-site.site c.args.self.now _ b.splits.number (noted.site past b.clocks) (noted.clocks past b.clocks)
    (c.note-2.ensures.of_record past (option_copied c.args.packet) b.splits) (c.note-2.ensures.settled (placed_of past) b.placed)
