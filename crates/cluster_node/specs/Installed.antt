-- The versions installed on a node, as a set.
use Rattle.std.specs.Prelude.{◌≡◌, ℕ, Bool, ◌==◌, List}
use Rattle.std.specs.List.{list_any}

-- a set has the numbers of a list, and no others
abbrev pub AreThose : (ℕ → Bool) → List ℕ → Type 0
AreThose has vs = (v : ℕ) → has v ≡ list_any (λ u. u == v) vs
