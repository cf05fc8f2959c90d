-- What holds of the counts of any two tables.
use Rattle.std.specs.Prelude.{◌≡◌, ◌≤◌, ◌<◌, ◌+◌, ℕ, false, List, length, Option}
use Rattle.pool_versions.specs.declared.backend.Backend.{Backend}
use Rattle.pool_versions.specs.declared.backend.Member.{Member}
use Rattle.pool_versions.specs.Pool.{has_double, same_name}
use Rattle.selection.specs.Picks.{NamedTable, slot_names, pick_at}
use Rattle.selection.specs.Readied.{same_backend}
use Rattle.table_commands.specs.Compare.{moved_slots}
use Rattle.rollout_plan.specs.declared.slots.TableRule.{TableRule}
use Rattle.rollout_plan.specs.Tables.{table_by, turn_slots}
use Rattle.rollout_plan.specs.Counts.{changed, down, moved, drained, least, slots_naming}

-- the slots that change are those that `compare` lists
abbrev pub ChangedAreCompared : Type 0
ChangedAreCompared = (before after : NamedTable) → changed before after ≡ length (moved_slots before after)

-- each slot that changes has one cause
abbrev pub CausesAddUp : Type 0
CausesAddUp =
    (before after : NamedTable) (draining : List Backend) →
    changed before after ≡ down before after draining + moved before after + drained before after draining

-- no backend is in the list twice
abbrev pub NamesOnce : List Backend → Type 0
NamesOnce bs = has_double same_backend bs ≡ false

-- two tables of one size give each backend as many slots, and leave as many to nobody
pub record HaveTheSameCounts (t u : NamedTable) : Type 0 where
  pub sized : t.size ≡ u.size
  pub alike : (who : Option Backend) → slots_naming who t ≡ slots_naming who u

-- No table that gives each backend as many slots as the second differs from the first in fewer slots than the least.
abbrev pub LeastIsLeast : Type 0
LeastIsLeast = (before after other : NamedTable) → NamesOnce before.ups → before.size ≡ after.size → HaveTheSameCounts after other →
    least before after ≤ changed before other

-- the tables of members of which no two have one name have no backend twice
abbrev pub TablesNameOnce : Type 0
TablesNameOnce = (rule : TableRule) (ms : List Member) → has_double same_name ms ≡ false → NamesOnce (table_by rule ms).ups

-- a slot in turn names whom a scheme without tables picks for a hash, or a turn, of the slot's number
abbrev pub TurnsArePicks : Type 0
TurnsArePicks = (size : ℕ) (bs : List Backend) (slot : ℕ) → slot < size → slot_names bs (turn_slots size (length bs)) slot ≡ pick_at bs slot
