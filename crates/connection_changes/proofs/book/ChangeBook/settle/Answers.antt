use Rattle.connection_changes.specs.Books.{placed_of}
use Rattle.connection_changes.proofs.Kept.{settled}
use Rattle.connection_changes.proofs.book.ChangeBook.settle.Goals as goal

pub returns : goal.returns
returns c = λ past b.
    settled past _ c.splits-splits.result.now c.besides.result.now b.splits (c.splits-splits.ensures past b.splits) (c.besides.ensures (placed_of past) b.placed)
    c.in_ok-self.ensures c.in_ok-self-2.ensures
