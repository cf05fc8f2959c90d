-- The picks of the schemes.
use Rattle.std.specs.Prelude.{◌≡◌, ◌<◌, ◌≤◌, ◌+◌, ℕ, ◌%◌, List, [], ◌∷◌, map, length, slice_get, slice_index, Option, Some, None}
use Rattle.std.specs.List.{Contains}
use Rattle.five_tuple.specs.Flow.{flow_bytes}
use Rattle.five_tuple.specs.declared.Flow.{Flow}
use Rattle.maglev_table.specs.Turns.{Preference, Owners, preference_of, slots_of, IsBalanced}
use Rattle.maglev_table.specs.Weights.{weighted_maglev, AreShares, AreEqual}
use Rattle.pool_versions.specs.declared.backend.Backend.{Backend}
use Rattle.selection.specs.Candidates.{Candidates}

-- the hash of a flow, where slots are asked for: under the tag 'f'
abbrev pub flow_hash : (List ℕ → ℕ) → Flow → ℕ
flow_hash plain x = plain (102 ∷ flow_bytes x)

-- the backend at a number, taken modulo the length
abbrev pub pick_at : List Backend → ℕ → Option Backend
pick_at ups n = slice_get ups (n % length ups)

-- the backends' preference lists
abbrev pub preferences : (List ℕ → ℕ) → ℕ → List Backend → List Preference
preferences plain size ups = map (λ b. preference_of plain b.name size) ups

-- for each slot the place of the backend that took it, where the backends take turns by their weights; no slots where
-- nobody is up
unfoldable pub slots_among : (List ℕ → ℕ) → ℕ → List Backend → List ℕ → List ℕ
slots_among plain size [] weights = []
slots_among plain size (b ∷ bs) weights = weighted_maglev (preferences plain size (b ∷ bs)) weights size

abbrev pub table_slots : (List ℕ → ℕ) → ℕ → Candidates → List ℕ
table_slots plain size c = slots_among plain size c.backends c.weights

-- the slot of a flow
abbrev pub slot_of_flow : (List ℕ → ℕ) → ℕ → Flow → ℕ
slot_of_flow plain size x = flow_hash plain x % size

-- the backend that a slot names
abbrev pub slot_names : List Backend → List ℕ → ℕ → Option Backend
slot_names ups owners slot = slice_get ups (slice_index owners slot)

-- the backend that the flow's slot names in the table of some candidates
abbrev pub table_pick : (List ℕ → ℕ) → ℕ → Candidates → Flow → Option Backend
table_pick plain size c x = slot_names c.backends (table_slots plain size c) (slot_of_flow plain size x)

-- a table of slots: its size, the backends, and for each slot the place of the one that it names
pub record NamedTable : Type 0 where
  pub size : ℕ
  pub ups : List Backend
  pub owners : List ℕ

-- every slot names an up backend
pub record IsFullTable (t : NamedTable) : Type 0 where
  pub long : length t.owners ≡ t.size
  pub named : (slot : ℕ) → slot < t.size → (b : Backend) × (slot_names t.ups t.owners slot ≡ Some b) × Contains t.ups b

-- Every slot names an up backend, and backends' slot counts are in proportion to their weights. For some number of rounds
-- each has from so many up to one more times its weight. Of equal weights they differ by at most one.
pub record IsEvenTable (weights : List ℕ) (t : NamedTable) : Type 0 where
  pub full : IsFullTable t
  pub shares : AreShares weights t.owners
  pub even : AreEqual weights → (i j : ℕ) → i < length t.ups → j < length t.ups → slots_of i t.owners ≤ slots_of j t.owners + 1

-- the table of some candidates
abbrev pub table_of_ups : (List ℕ → ℕ) → ℕ → Candidates → NamedTable
table_of_ups plain size c = record { size = size; ups = c.backends; owners = table_slots plain size c }

-- a value is the table of some candidates, and where somebody is up an even one
pub record IsTableOf (plain : List ℕ → ℕ) (size : ℕ) (c : Candidates) (t : NamedTable) : Type 0 where
  pub made : t ≡ table_of_ups plain size c
  pub even : (c.backends ≡ [] → ⊥) → IsEvenTable c.weights t

-- the slots of a table, if there is one
abbrev pub owners_in : Option Owners → List ℕ
owners_in None = []
owners_in (Some t) = t.owners

-- what population makes of some lists of some weights
pub record IsTable (lists : List Preference) (weights : List ℕ) (size : ℕ) (t : Owners) : Type 0 where
  pub some : lists ≡ [] → ⊥
  pub lists_are : t.lists ≡ length lists
  pub long : length t.owners ≡ size
  pub owners_are : t.owners ≡ weighted_maglev lists weights size
  pub shares : AreShares weights t.owners
  pub balanced : AreEqual weights → IsBalanced (length lists) t.owners
