use Rattle.run_report.proofs.Noting.{unsent_more}
use Rattle.run_report.proofs.book.SplitBook.note_unsent.Goals as goal

pub returns-clause-of_record : goal.returns-clause-of_record
returns-clause-of_record g c = λ past s none h. unsent_more s past c.args.self.now c.in_ok-after.after h none c.in_ok-after.ensures

pub returns-clause-settled : goal.returns-clause-settled
returns-clause-settled g c = λ all h. record { last = h.last; flows = h.flows; splits = h.splits; besides = h.besides }
