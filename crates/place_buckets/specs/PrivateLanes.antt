-- Where something stands first among some items.
use Rattle.std.specs.Prelude.{◌≡◌, ℕ, ◌+◌, ◌<◌, ◌≤◌, ◌==◌, List, get_or, if◌then◌else◌}
use Rattle.std.specs.Int.{w64, trailing_zeros}

-- the number of the lowest bit that is set, or n
abbrev pub first_set : ℕ → ℕ → ℕ
first_set mask n = if mask == 0 then n else trailing_zeros w64 mask

-- the item is the first of those n from an index on that is x, or there is none and the answer is n
pub record IsFirst (items : List ℕ) (from n x first : ℕ) : Type 0 where
  pub within : first ≤ n
  pub before : (i : ℕ) → from ≤ i → i < from + first → get_or items i 0 ≡ x → ⊥
  pub here : first < n → get_or items (from + first) 0 ≡ x
