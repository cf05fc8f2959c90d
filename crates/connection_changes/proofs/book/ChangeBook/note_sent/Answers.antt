use Rattle.std.proofs.Common.{◌∙◌}
use Rattle.std.specs.Prelude.{option_copied}
use Rattle.event_trace.specs.Noting.{said_by}
use Rattle.connection_changes.specs.Books.{placed_of}
use Rattle.connection_changes.proofs.Clocked.{sent_more, sent_there}
use Rattle.connection_changes.proofs.Kept.{event_noted}
use Rattle.connection_changes.proofs.book.ChangeBook.note_sent.Goals as goal

pub returns-in_ok-site-in-Serve-Forward : goal.returns-in_ok-site-in-Serve-Forward
returns-in_ok-site-in-Serve-Forward c = λ past b.
    let s = said_by c.args.event.now (option_copied c.args.packet) c.args.outcome.now in
    let served = c.in_ok-site-in-Serve-Forward.ensures in
    let clocks = sent_more s past c.args.self.now.clocks c.serve.new.self _ _ _ _ _ _ _ _ _ _ b.clocks c.in-Serve-Forward.is-0 c.in-Serve-Forward.is-1 served.clocks served.rest in
    event_noted c.note.result s past c.args.self.now.splits.number c.in_ok-site-in-Serve-Forward.site c.args.self.now _ b.splits.number
    (served.site ∙ sent_there s past c.serve.new.self _ _ _ _ _ _ c.in-Serve-Forward.is-1 clocks) clocks
    (c.note.ensures.of_record past (option_copied c.args.packet) b.splits) (c.note.ensures.settled (placed_of past) b.placed)
