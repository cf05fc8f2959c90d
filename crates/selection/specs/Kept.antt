-- How a table keeps its slots.
use Rattle.std.specs.Prelude.{◌≡◌, ℕ, List, []}
use Rattle.pool_versions.specs.declared.backend.Backend.{Backend}
use Rattle.selection.specs.Picks.{IsFullTable}
use Rattle.selection.specs.declared.maglev.Slots.{Slots}
use Rattle.selection.specs.declared.maglev.Slots.TheVariants.{Narrow, Wide}

-- for each slot the place that it names
abbrev pub owners_of : Slots → List ℕ
owners_of (Narrow v) = v.items
owners_of (Wide t) = t.owners

-- where somebody is up every slot names somebody
abbrev pub FitsSlots : ℕ → List Backend → List ℕ → Type 0
FitsSlots size ups owners = (ups ≡ [] → ⊥) → IsFullTable (record { size = size; ups = ups; owners = owners })
