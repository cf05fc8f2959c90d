-- Names that share a table, and the table that they share.
use Rattle.std.specs.Prelude.{◌≡◌, ℕ, ◌<◌, List, [], ◌∷◌, ◌++◌, map, length, suc, slice_index_or}
use Rattle.std.specs.List.{IsDistinct, range_with_len}
use Rattle.std.specs.List.Sorted.{IsPermutation}
use Rattle.std.specs.Str.{bytes_eq}
use Rattle.std.specs.Cmp.Lexicographic.{slice_cmp}
use Rattle.std.specs.Ordering.{nat_cmp}
use Rattle.std.specs.declared.cmp.Ordering.TheVariants.{Less}
use Rattle.maglev_table.specs.Turns.{Preference, preference_of}
use Rattle.maglev_table.specs.Weights.{weighted_maglev, weighted_probes}
use Rattle.table_entrants.specs.declared.entrant.Entrant.{Entrant}

abbrev pub names_of : List Entrant → List (List ℕ)
names_of entrants = map (λ e. e.name) entrants

abbrev pub weights_of : List Entrant → List ℕ
weights_of entrants = map (λ e. e.weight) entrants

abbrev pub places_of : List Entrant → List ℕ
places_of entrants = map (λ e. e.place) entrants

-- some names and one more behind them, whose place is how many they are
abbrev pub entered : List Entrant → List ℕ → ℕ → List Entrant
entered entrants name weight = entrants ++ record { name = name; weight = weight; place = length entrants } ∷ []

-- so many names as they were given: what each place has for its name and its weight
abbrev pub entrants_by : (ℕ → List ℕ) → (ℕ → ℕ) → ℕ → List Entrant
entrants_by name weight n = map (λ i. record { name = name i; weight = weight i; place = i }) (range_with_len 0 n)

-- no name is there twice
abbrev pub AreDistinct : List (List ℕ) → Type 0
AreDistinct names = IsDistinct bytes_eq names

-- the same names with their weights and places, in ascending order of bytes
pub record IsRanked (given ranked : List Entrant) : Type 0 where
  pub permutation : IsPermutation given ranked
  pub ascending : (i : ℕ) → suc i < length ranked →
      slice_cmp nat_cmp (slice_index_or (names_of ranked) i []) (slice_index_or (names_of ranked) (suc i) []) ≡ Less

-- the preference lists of some names
abbrev pub lists_of : (List ℕ → ℕ) → ℕ → List Entrant → List Preference
lists_of plain size entrants = map (λ e. preference_of plain e.name size) entrants

-- for each slot the one of some names that takes it, where they take their turns in their order
abbrev pub owners_of : (List ℕ → ℕ) → ℕ → List Entrant → List ℕ
owners_of plain size entrants = weighted_maglev (lists_of plain size entrants) (weights_of entrants) size

-- how many places of their preference lists the walks pass or take meanwhile
abbrev pub probes_of : (List ℕ → ℕ) → ℕ → List Entrant → ℕ
probes_of plain size entrants = weighted_probes (lists_of plain size entrants) (weights_of entrants) size
