use Rattle.summary_book.specs.Books.{sents_of}
use Rattle.summary_book.proofs.Settled.{changed_are}
use Rattle.summary_book.proofs.book.SummaryBook.settle.Goals as goal

pub returns : goal.returns
returns c = λ past h.
    let seen = c.in_ok-take.ensures.seen (sents_of past) h.sents in
    record { seen = seen; changed = changed_are past c.take.new.self.seen c.as_slice.result.now _ seen c.as_slice.ensures.value c.in_ok-self.ensures }
