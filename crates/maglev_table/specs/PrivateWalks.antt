-- Walks along a preference list to the next slot that is free.
use Rattle.std.specs.Prelude.{◌≡◌, ℕ, Bool, true, false, List, ◌<◌, ◌≤◌, ◌*◌, All, map, length, slice_index_or}
use Rattle.maglev_table.specs.Turns.{Preference, preferred, preference_list, owners_of, claims, probes_of, IsProper}
use Rattle.maglev_table.specs.Weights.{AreWeights, round_of}

-- a slot that is free stands at a place of a list or behind it
abbrev pub IsFreeAhead : Preference → List Bool → ℕ → Type 0
IsFreeAhead list taken place = (p : ℕ) × (place ≤ p) × (p < list.size) × (slice_index_or taken (preferred list p) true ≡ false)

-- the first place from a place on whose slot is free, with that slot
pub record IsNextFree (list : Preference) (taken : List Bool) (from place slot : ℕ) : Type 0 where
  pub here : slot ≡ preferred list place
  pub low : from ≤ place
  pub within : place < list.size
  pub free : slice_index_or taken slot true ≡ false
  pub first : (p : ℕ) → from ≤ p → p < place → slice_index_or taken (preferred list p) true ≡ true

-- what the turns of some lists leave: who took each slot, and how many places the walks passed or took
pub record IsFilled (lists : List Preference) (weights : List ℕ) (size : ℕ) (took : List ℕ) (passed : ℕ) : Type 0 where
  pub owners : took ≡ owners_of (claims (map preference_list lists) (round_of (length lists) weights) size) size
  pub probes : passed ≡ probes_of (map preference_list lists) (claims (map preference_list lists) (round_of (length lists) weights) size)
  pub proper : All (λ p. IsProper p) lists
  pub within : AreWeights weights
  pub bound : passed ≤ length lists * size
