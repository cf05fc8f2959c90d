use Rattle.connection_changes.proofs.Reckoned.{same_reckoning}
use Rattle.connection_changes.proofs.book.ChangeBook.account.Goals as goal

pub returns : goal.returns
returns c = λ past book. same_reckoning _ _ _ _ _ _ _ _ (c.flows.ensures past book.splits) (c.changed.ensures past book) (c.splits.ensures past book.splits) (c.changes.ensures past book)
