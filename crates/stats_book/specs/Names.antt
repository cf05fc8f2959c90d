-- The names of the ledgers of a book.
use Rattle.std.specs.Prelude.{ℕ, List}

-- ledgers that no type vouches for yet: their names, and into how many parts the shares of each are
-- cut
pub record Unnamed : Type 0 where
  pub names : List ℕ
  pub parts : ℕ
