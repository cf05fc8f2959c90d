-- The places of an order.
use Rattle.std.specs.Prelude.{◌≡◌, ℕ, ◌<◌, ◌≤◌, ◌==◌, not, eqb, List, length}
use Rattle.std.specs.List.{filter, All, Contains, IsDistinct}

-- the places but p, in their order
abbrev pub without : ℕ → List ℕ → List ℕ
without p xs = filter (λ q. not (q == p)) xs

-- the places 1 to n, each of them once
pub record ArePlaces (n : ℕ) (xs : List ℕ) : Type 0 where
  pub long : length xs ≡ n
  pub low : All (λ p. (0 < p) × (p ≤ n)) xs
  pub apart : IsDistinct eqb xs
  pub all : (p : ℕ) → 0 < p → p ≤ n → Contains xs p
