use Rattle.summary_book.proofs.Settled.{reckoned_are}
use Rattle.summary_book.proofs.book.SummaryBook.account.Goals as goal

pub returns : goal.returns
returns c = λ past h. reckoned_are past c.args.self.now.seen _ _ _ _ h.seen c.len.ensures (c.len-2.ensures _ h.changed) c.as_slice.ensures.value c.as_slice-2.ensures.value
