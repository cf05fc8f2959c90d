use Rattle.summary_book.proofs.Settled.{counts_are}
use Rattle.summary_book.proofs.book.SummaryBook.counts.Goals as goal

pub returns : goal.returns
returns c = λ past h. counts_are past c.args.self.now.seen _ _ h.seen c.len.ensures (c.len-2.ensures _ h.changed)
