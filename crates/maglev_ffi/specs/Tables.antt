-- What a table is filled with, and when that is refused.
use Rattle.std.specs.Prelude.{◌≡◌, ℕ, ◌==◌, ◌&&◌, ◌||◌, nat_le, nat_lt, Bool, true, not, if◌then◌else◌, List, [], map, length, slice_index, slice_index_or}
use Rattle.std.specs.Prelude.{Option, Some, None, is_some, ◌⊎◌}
use Rattle.std.specs.List.{list_all}
use Rattle.hash_laws.specs.declared.any.AnyHash.{AnyHash}
use Rattle.hash_laws.specs.Any.{plain_of}
use Rattle.backend_names.specs.Sizes.{is_table_size}
use Rattle.backend_names.specs.NameText.{is_name}
use Rattle.maglev_texts.specs.Parsing.{pieces}
use Rattle.table_entrants.specs.Ranking.{IsRanked, AreDistinct, places_of, owners_of, entrants_by}
use Rattle.table_entrants.specs.declared.entrant.Entrant.{Entrant}
use Rattle.maglev_ffi.specs.Slots.{hash_of_number}
use Rattle.maglev_ffi.specs.declared.fault.Fault.{Fault}
use Rattle.maglev_ffi.specs.declared.fault.Fault.TheVariants.{BadSize, BadHash, BadRoom, BadName, TooMany, BadWeight, DoubleName, Memory}

-- the names of a text, one a line
abbrev pub names_in : List ℕ → List (List ℕ)
names_in text = pieces 10 text

abbrev pub is_weight : ℕ → Bool
is_weight weight = nat_le 1 weight && nat_le weight 16

-- no weights, or one for each of n names
abbrev pub are_weights : ℕ → List ℕ → Bool
are_weights n weights = (length weights == 0) || ((length weights == n) && list_all is_weight weights)

-- the weight of the name at a place: without weights each counts once
abbrev pub weight_at : List ℕ → ℕ → ℕ
weight_at weights i = if length weights == 0 then 1 else slice_index weights i

abbrev pub entrants_of : List (List ℕ) → List ℕ → List Entrant
entrants_of names weights = entrants_by (λ i. slice_index_or names i []) (weight_at weights) (length names)

-- for each slot the place of the name that takes it, where the names take their turns in ascending order
pub record IsTable (plain : List ℕ → ℕ) (size : ℕ) (names : List (List ℕ)) (weights slots : List ℕ) : Type 0 where
  pub entrants : List Entrant
  pub ranked : IsRanked (entrants_of names weights) entrants
  pub filled : slots ≡ map (λ who. slice_index (places_of entrants) who) (owners_of plain size entrants)

-- the same, for the hash of a number and the names of a text
abbrev pub IsTableOf : ℕ → ℕ → List ℕ → List ℕ → List ℕ → Type 0
IsTableOf number size text weights slots = (hash : AnyHash) × (hash_of_number number ≡ Some hash) × IsTable (plain_of hash) size (names_in text) weights slots

-- the first fault of some names and weights, but for a name that is there twice
unfoldable pub names_fault : ℕ → List (List ℕ) → List ℕ → Option Fault
names_fault size names weights =
    if not (list_all is_name names) then Some BadName else
    (if nat_lt size (length names) then Some TooMany else
    (if not (are_weights (length names) weights) then Some BadWeight else None))

-- the first fault, but for a name that is there twice
unfoldable pub first_fault : ℕ → ℕ → List ℕ → List ℕ → ℕ → Option Fault
first_fault size hash text weights room =
    if not (is_table_size size) then Some BadSize else
    (if not (is_some (hash_of_number hash)) then Some BadHash else
    (if not (room == size) then Some BadRoom else names_fault size (names_in text) weights))

-- what names are where ranking them ends by a fault
abbrev pub RankFails : Fault → List (List ℕ) → Type 0
RankFails DoubleName names = AreDistinct names → ⊥
RankFails Memory names = Unit {0}
RankFails _ names = ⊥

-- what names and weights are where they are refused: the fault is the first one; or there is none, and a name is there twice
abbrev pub NamesRefuse : Fault → ℕ → List (List ℕ) → List ℕ → Type 0
NamesRefuse DoubleName size names weights = (names_fault size names weights ≡ None) × (AreDistinct names → ⊥)
NamesRefuse Memory size names weights = Unit {0}
NamesRefuse fault size names weights = names_fault size names weights ≡ Some fault

-- a listed size and hash, and a place for each slot
pub record AreListed (size hash room : ℕ) : Type 0 where
  pub size_listed : is_table_size size ≡ true
  pub hash_listed : is_some (hash_of_number hash) ≡ true
  pub fitting : room ≡ size

-- the same of all that is passed
abbrev pub Refuses : Fault → ℕ → ℕ → List ℕ → List ℕ → ℕ → Type 0
Refuses DoubleName size hash text weights room = (first_fault size hash text weights room ≡ None) × (AreDistinct (names_in text) → ⊥)
Refuses Memory size hash text weights room = AreListed size hash room
Refuses fault size hash text weights room = first_fault size hash text weights room ≡ Some fault

-- the number of a fault
abbrev pub number_of : Fault → ℕ
number_of BadSize = 1
number_of BadHash = 2
number_of BadRoom = 3
number_of BadName = 4
number_of TooMany = 5
number_of BadWeight = 6
number_of DoubleName = 7
number_of Memory = 8

-- 0 where nothing is wrong, else the number of the fault
abbrev pub IsAnswer : ℕ → ℕ → ℕ → List ℕ → List ℕ → ℕ → Type 0
IsAnswer answer size hash text weights room =
    ((answer ≡ 0) × (first_fault size hash text weights room ≡ None) × AreDistinct (names_in text))
    ⊎ ((fault : Fault) × (answer ≡ number_of fault) × Refuses fault size hash text weights room)
