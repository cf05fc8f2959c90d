-- The links of an order: a ring of places, with the sentinel 0 before the newest and after the oldest.
use Rattle.std.specs.Prelude.{◌≡◌, ℕ, zero, suc, ◌-◌, ◌<◌, eqb, List, [], ◌∷◌, length, get_or}
use Rattle.std.specs.List.{All, IsDistinct}
use Rattle.recent_order.specs.Places.{ArePlaces}

-- between a and b stand these places: `older` leads from each to the next, `newer` back
unfoldable pub Chained : List ℕ → List ℕ → ℕ → List ℕ → ℕ → Type 0
Chained older newer a [] b = (get_or older a 0 ≡ b) × (get_or newer b 0 ≡ a)
Chained older newer a (p ∷ ps) b = (get_or older a 0 ≡ p) × (get_or newer p 0 ≡ a) × Chained older newer p ps b

-- these places are linked, each once, and each has its links
pub record AreLinked (older newer : List ℕ) (xs : List ℕ) : Type 0 where
  pub even : length newer ≡ length older
  pub ring : Chained older newer 0 xs 0
  pub apart : IsDistinct eqb xs
  pub within : All (λ p. (0 < p) × (p < length older)) xs

-- the n places that `older` leads to from a
unfoldable pub places_after : List ℕ → ℕ → ℕ → List ℕ
places_after older zero a = []
places_after older (suc n) a = get_or older a 0 ∷ places_after older n (get_or older a 0)

-- the places that the sentinel leads to, as many as there are links besides its own
unfoldable pub places_of : List ℕ → List ℕ
places_of older = places_after older (length older - 1) 0

-- all places are linked
pub record IsRing (older newer : List ℕ) (xs : List ℕ) : Type 0 where
  pub sized : length xs ≡ length older - 1
  pub linked : AreLinked older newer xs
  pub places : ArePlaces (length xs) xs
