use Rattle.std.proofs.Common.{refl, sym, ◌∙◌}
use Rattle.std.specs.Prelude.{option_copied}
use Rattle.event_trace.specs.Noting.{said_by}
use Rattle.traffic_shares.specs.Shares.{portion_of, keys_of}
use Rattle.traffic_shares.specs.declared.book.ShareBook.{ShareBook}
use Rattle.traffic_shares.proofs.Noted.{sent_noted}
use Rattle.traffic_shares.proofs.book.ShareBook.note.Goals as goal

pub returns-in-Some : goal.returns-in-Some
returns-in-Some c = λ kind past b.
    let s = said_by c.args.event.now (option_copied c.args.packet) c.args.outcome.now in
    let made : ShareBook = record c.args.self.now { lengths = c.note.new.self; shares = c.put.new.self } in
    sent_noted kind s past c.put.result c.args.self.now made c.in-Some.sent c.key_of.result c.at-len.result b (sym c.sent_by.ensures ∙ c.in-Some.is) refl (c.in_ok-note.ensures past c.args.outcome.now b.lengths)
    c.key_of.ensures c.at-len.ensures (c.put.ensures (keys_of kind past) (λ k. portion_of kind past k) b.shares)
