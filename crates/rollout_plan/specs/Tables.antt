-- The tables of slots by which a scenario's versions are compared.
use Rattle.std.specs.Prelude.{◌≡◌, ℕ, ◌<◌, ◌≤◌, ◌%◌, ◌==◌, if◌then◌else◌, List, [], map, length}
use Rattle.std.specs.List.{range_with_len, All}
use Rattle.hash_laws.specs.Any.{plain_of}
use Rattle.maglev_table.specs.Turns.{all_slots_of}
use Rattle.pool_versions.specs.declared.backend.Backend.{Backend}
use Rattle.pool_versions.specs.declared.backend.Member.{Member}
use Rattle.pool_versions.specs.Pool.{ups, weights}
use Rattle.selection.specs.Picks.{NamedTable, slots_among}
use Rattle.scenario_keys.specs.declared.words.SchemeKind.{SchemeKind}
use Rattle.scenario_keys.specs.declared.words.SchemeKind.TheVariants.{Maglev, Plain, Round}
use Rattle.scenario.specs.declared.plan.Scenario.{Scenario}
use Rattle.rollout_plan.specs.declared.slots.TableRule.{TableRule}

-- the place of the backend at each slot, where so many backends have the slots one after the other; no slots where there is none
abbrev pub turn_slots : ℕ → ℕ → List ℕ
turn_slots size n = if n == 0 then [] else map (λ slot. slot % n) (range_with_len 0 size)

-- the place of the backend at each slot: by Maglev's table, or for a scheme without a table in turn
abbrev pub slots_by : SchemeKind → (List ℕ → ℕ) → ℕ → List Backend → List ℕ → List ℕ
slots_by Maglev plain size bs ws = slots_among plain size bs ws
slots_by Plain plain size bs ws = turn_slots size (length bs)
slots_by Round plain size bs ws = turn_slots size (length bs)

-- the table of the up ones of some members
abbrev pub table_by : TableRule → List Member → NamedTable
table_by rule ms = record { size = rule.size; ups = ups ms; owners = slots_by rule.kind (plain_of rule.hash) rule.size (ups ms) (weights ms) }

-- how a scenario's tables are made
abbrev pub rule_of : Scenario → TableRule
rule_of s = record { size = s.size; hash = s.hash; kind = s.scheme }

-- each slot has a backend's place, where there is one, and each backend's slots are counted
pub record IsSlotTable (size : ℕ) (backends : List Backend) (owners counts : List ℕ) : Type 0 where
  pub long : (backends ≡ [] → ⊥) → length owners ≡ size
  pub named : All (λ place. place < length backends) owners
  pub fit : length backends ≤ size
  pub few : length owners ≤ 65537
  pub counted : counts ≡ all_slots_of (length backends) owners
