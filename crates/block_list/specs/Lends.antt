-- What a list in blocks ends as, where a `&mut` to one of its items is returned.
use Rattle.std.specs.Prelude.{ℕ}
use Rattle.std.specs.Borrow.{Lends, Fml, RattleType, MutBor}
use Rattle.block_list.specs.Blocks.{Blocks, with_item}
use Rattle.block_list.specs.contracts.blocks.Blocks.{the_row}

module _ (T : RattleType) (b : MutBor (Blocks T.Denot)) where
  -- once the borrow r ends, the index has the last value written through r
  abbrev pub lends_item : ℕ → MutBor T.Denot → Fml
  lends_item at r = Lends (the_row T) T b r (with_item b.now at)
