-- The promises over any list of events for Maglev, in terms of the tables' slots.
use Rattle.std.specs.Prelude.{◌≡◌, ℕ, true, List, [], Option, Some, None}
use Rattle.std.specs.List.{Contains}
use Rattle.backend_names.specs.Sizes.{is_table_size}
use Rattle.five_tuple.specs.declared.Flow.{Flow}
use Rattle.pool_versions.specs.declared.backend.Backend.{Backend}
use Rattle.pool_versions.specs.declared.service.Service.{Service}
use Rattle.pool_versions.specs.declared.service.Version.{Version}
use Rattle.pool_versions.specs.Pool.{Pools, ups, draining_backends, weights, AreSound}
use Rattle.selection.specs.Picks.{slot_of_flow, slot_names, table_slots, table_pick, table_of_ups, IsEvenTable}
use Rattle.selection.specs.Candidates.{Candidates, candidates_in, candidates_of}
use Rattle.cluster_node.specs.Rules.{Rules}
use Rattle.cluster_node.specs.declared.outcomes.Outcome.{Outcome}
use Rattle.cluster_core.specs.Headline.{Sent}

-- the backend that a slot names in the table of these
abbrev pub named_in : (List ℕ → ℕ) → ℕ → Option Candidates → ℕ → Option Backend
named_in plain size None slot = None
named_in plain size (Some ups) slot = slot_names ups.backends (table_slots plain size ups) slot

-- the backend that the flow's slot names in the table of the flow's service under a version
abbrev pub named_under : (List ℕ → ℕ) → ℕ → Pools → ℕ → Flow → Option Backend
named_under plain size pools v x = named_in plain size (candidates_of pools v x) (slot_of_flow plain size x)

-- AGREEMENT. Two packets of one flow that were sent to different backends, by any forwarders, were chosen under versions
-- whose tables name these backends at the flow's slot. So those versions differ.
abbrev pub TablesDiffer : (List ℕ → ℕ) → ℕ → Pools → List Outcome → Type 0
TablesDiffer plain size pools outs = (x : Flow) (b₁ b₂ : Backend) (v₁ v₂ : ℕ) → Sent outs x b₁ v₁ → Sent outs x b₂ v₂ → (b₁ ≡ b₂ → ⊥) →
    (named_under plain size pools v₁ x ≡ Some b₁) × (named_under plain size pools v₂ x ≡ Some b₂) × (v₁ ≡ v₂ → ⊥)

-- SLOTS. Take the table of each service of each version in which somebody is up, also of one that an earlier service hides.
-- Every slot names an up backend, and the backends' slot counts are in proportion to their weights. For some number of
-- rounds each has from so many up to one more times its weight. Where the weights are equal the counts differ by at most
-- one.
abbrev pub TablesAreEven : (List ℕ → ℕ) → ℕ → Pools → Type 0
TablesAreEven plain size pools = (v : Version) (s : Service) → Contains pools.versions v → Contains v.services.items s →
    (ups s.members.items ≡ [] → ⊥) → IsEvenTable (weights s.members.items) (table_of_ups plain size (candidates_in s.members.items))

-- SLOTS. No slot of the table of a service of a version names a member that drains.
abbrev pub NoSlotDrains : (List ℕ → ℕ) → ℕ → Pools → Type 0
NoSlotDrains plain size pools = (v : Version) (s : Service) → Contains pools.versions v → Contains v.services.items s →
    (slot : ℕ) (b : Backend) → slot_names (ups s.members.items) (table_slots plain size (candidates_in s.members.items)) slot ≡ Some b →
    Contains (draining_backends s.members.items) b → ⊥

-- the rules are those of Maglev over these pools, which are a catalogue's, with tables of a listed size
pub record AreMaglevs (plain : List ℕ → ℕ) (size : ℕ) (pools : Pools) (rules : Rules) : Type 0 where
  pub listed : is_table_size size ≡ true
  pub sound : AreSound pools
  pub pick : (candidates : Candidates) (x : Flow) (turn : ℕ) → rules.pick candidates x turn ≡ table_pick plain size candidates x
  pub ups : (v : ℕ) (x : Flow) → rules.ups v x ≡ candidates_of pools v x
