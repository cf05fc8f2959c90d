-- What a scheme prepared, where several versions share it.
use Rattle.std.specs.Prelude.{◌≡◌, ℕ, List, map}
use Rattle.pool_versions.specs.declared.backend.Backend.{Backend}
use Rattle.selection.specs.Candidates.{Candidates, WhoeverDrains}

-- backends with the weight of each
pub record Weighed : Type 0 where
  pub backends : List Backend
  pub weights : List ℕ

-- backends for which something was prepared, by a scheme and for a size
pub record Chosen (S : Type 0) : Type 0 where
  pub scheme : S
  pub size : ℕ
  pub ups : Weighed

-- something holds of backends and their weights, whoever drains beside them
abbrev pub IsPreparedFor : (Candidates → Type 0) → Weighed → Type 0
IsPreparedFor Holds u = WhoeverDrains Holds u.backends u.weights

-- what was prepared is right for a scheme, a size and some backends
pub record StandsFor {S P : Type 0} (is_prepared : S → ℕ → Candidates → P → Type 0) (scheme : S) (size : ℕ) (ups : Weighed) (c : Chosen S) : Type 0 where
  pub those : c.ups ≡ ups
  pub right : (p : P) → IsPreparedFor (λ u. is_prepared c.scheme c.size u p) c.ups → IsPreparedFor (λ u. is_prepared scheme size u p) ups

-- the names of backends, in their order
abbrev pub names_of : List Backend → List (List ℕ)
names_of bs = map (λ b. b.name) bs

-- something holds of backends of the same names and weights, whoever drains beside them
pub record IsLike (Holds : Candidates → Type 0) (bs : List Backend) (ws : List ℕ) : Type 0 where
  pub others : List Backend
  pub named : names_of others ≡ names_of bs
  pub holds : WhoeverDrains Holds others ws
