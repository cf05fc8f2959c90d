-- The promises of every list of events and of every record whose outcomes are the verdicts. A record has the newest event in
-- front, a history the oldest.
use Rattle.std.specs.Prelude.{ℕ, List, [], ◌∷◌, reverse}
use Rattle.pool_versions.specs.Pool.{Pools}
use Rattle.cluster_node.specs.declared.events.Event.{Event}
use Rattle.cluster_node.specs.declared.events.LogEntry.{LogEntry}
use Rattle.cluster_node.specs.declared.packets.Packet.{Packet}
use Rattle.cluster_node.specs.Records.{Judged}
use Rattle.cluster_node.specs.Rules.{Rules}
use Rattle.cluster_core.specs.Runs.{verdict, verdicts}
use Rattle.cluster_core.specs.Headline.{Agreement, Keeps, KeepsUps, Keeping, KeepingUps}
use Rattle.cluster_core.specs.Tables.{TablesDiffer, TablesAreEven, NoSlotDrains, AreMaglevs}
use Rattle.cluster_core.specs.Histories.{IsSteady, outcomes_of}

-- at each event of a record a forwarder keeps a flow's backend while its entry stands and the backend is up or drains
abbrev pub KeptThroughout : Rules → List LogEntry → Type 0
KeptThroughout rules [] = Unit {0}
KeptThroughout rules (s ∷ past) = Keeps rules past s.event s.outcome × KeptThroughout rules past

-- the same, while the backend is up
abbrev pub UpsKeptThroughout : Rules → List LogEntry → Type 0
UpsKeptThroughout rules [] = Unit {0}
UpsKeptThroughout rules (s ∷ past) = KeepsUps rules past s.event s.outcome × UpsKeptThroughout rules past

-- the promises of a history
pub record Promises (rules : Rules) (history : List LogEntry) : Type 0 where
  pub agreement : IsSteady rules → Agreement rules (outcomes_of history)
  pub keeping : KeptThroughout rules (reverse history)
  pub keeping_ups : UpsKeptThroughout rules (reverse history)

-- in terms of tables
pub record MaglevPromises (plain : List ℕ → ℕ) (size : ℕ) (pools : Pools) (rules : Rules) (history : List LogEntry) : Type 0 where
  pub agreement : TablesDiffer plain size pools (outcomes_of history)
  pub keeping : KeptThroughout rules (reverse history)
  pub keeping_ups : UpsKeptThroughout rules (reverse history)
  pub slots : TablesAreEven plain size pools
  pub none_drains : NoSlotDrains plain size pools

-- every judged history keeps them
abbrev pub HistoriesKeepPromises : Type 0
HistoriesKeepPromises = (rules : Rules) (history : List LogEntry) → Judged (verdict rules) (reverse history) → Promises rules history

-- for Maglev in terms of tables
abbrev pub MaglevKeepsPromises : Type 0
MaglevKeepsPromises = (plain : List ℕ → ℕ) (size : ℕ) (pools : Pools) (rules : Rules) (history : List LogEntry) → AreMaglevs plain size pools rules →
    Judged (verdict rules) (reverse history) → MaglevPromises plain size pools rules history

-- the promises of a list of events and its outcomes
pub record ListPromises (rules : Rules) (packets : List Packet) (events : List Event) : Type 0 where
  pub agreement : IsSteady rules → Agreement rules (verdicts rules [] packets events)
  pub keeping : Keeping rules [] packets events (verdicts rules [] packets events)
  pub keeping_ups : KeepingUps rules [] packets events (verdicts rules [] packets events)

abbrev pub ListsKeepPromises : Type 0
ListsKeepPromises = (rules : Rules) (packets : List Packet) (events : List Event) → ListPromises rules packets events
