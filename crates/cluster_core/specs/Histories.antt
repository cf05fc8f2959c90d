-- What is true of every record whose outcomes are the verdicts. A record has the newest event in front, a history the oldest.
use Rattle.std.specs.Prelude.{◌≡◌, ◌≤◌, ℕ, List, [], ◌∷◌, length, map, reverse, Option, Some, slice_get}
use Rattle.five_tuple.specs.declared.Flow.{Flow}
use Rattle.pool_versions.specs.declared.backend.Backend.{Backend}
use Rattle.selection.specs.Candidates.{Candidates}
use Rattle.cluster_node.specs.declared.packets.Packet.{Packet}
use Rattle.cluster_node.specs.declared.events.Event.{Event}
use Rattle.cluster_node.specs.declared.events.LogEntry.{LogEntry}
use Rattle.cluster_node.specs.declared.outcomes.Outcome.{Outcome}
use Rattle.cluster_node.specs.declared.outcomes.Outcome.TheVariants.{Forward}
use Rattle.cluster_node.specs.Rules.{Rules}
use Rattle.cluster_node.specs.Book.{placed, taken_count}
use Rattle.cluster_node.specs.Records.{Judged, WasRead, lines_at}
use Rattle.cluster_core.specs.Cluster.{TakesFirst}
use Rattle.cluster_core.specs.Runs.{verdict, verdicts, cluster_by}
use Rattle.cluster_core.specs.Totals.{came_all, went_all, came_of, went_of}
use Rattle.cluster_core.specs.Explain.{PickedSends}

-- the turn doesn't matter to the scheme
abbrev pub IsSteady : Rules → Type 0
IsSteady rules = (ups : Candidates) (x : Flow) (t u : ℕ) → rules.pick ups x t ≡ rules.pick ups x u

-- no worker serves more than was placed on it
abbrev pub ServesWhatWasPlaced : Type 0
ServesWhatWasPlaced = (rules : Rules) (past : List LogEntry) → Judged (verdict rules) past → (n w : ℕ) →
    taken_count (lines_at past n w) ≤ length (placed (lines_at past n w))

-- what is sent is the packet that waits first for the worker
abbrev pub SendsWhatWaitsFirst : Type 0
SendsWhatWaitsFirst = (rules : Rules) (past : List LogEntry) (e : Event) (p : Option Packet) (n w place : ℕ) (x : Flow) (b : Backend) (v : ℕ) →
    verdict rules past e p ≡ Forward n w place x b v → TakesFirst (cluster_by rules) past e n w place

abbrev pub outcomes_of : List LogEntry → List Outcome
outcomes_of history = map (λ s. s.outcome) history

-- what was sent went to the pick under its origin
abbrev pub SendsFollowPicks : Type 0
SendsFollowPicks = (rules : Rules) (history : List LogEntry) → IsSteady rules → Judged (verdict rules) (reverse history) →
    PickedSends rules (outcomes_of history)

-- a history's outcomes put into the queues, and take out, what its record says
abbrev pub HistoriesCount : Type 0
HistoriesCount = (history : List LogEntry) → (came_all (outcomes_of history) ≡ came_of (reverse history))
    × (went_all (outcomes_of history) ≡ went_of (reverse history))

-- the packets of a record were read
abbrev pub AllRead : List LogEntry → Type 0
AllRead [] = Unit {0}
AllRead (s ∷ past) = WasRead s.packet × AllRead past

-- what left the queues is no more than what came into them
abbrev pub RecordsAreBalanced : Type 0
RecordsAreBalanced = (rules : Rules) (past : List LogEntry) → Judged (verdict rules) past → AllRead past → went_of past ≤ came_of past

-- the same of a list of events, as `totals` asks
abbrev pub ListsAreBalanced : Type 0
ListsAreBalanced = (rules : Rules) (packets : List Packet) (events : List Event) → ((k : ℕ) (p : Packet) → slice_get packets k ≡ Some p → WasRead (Some p)) →
    went_all (verdicts rules [] packets events) ≤ came_all (verdicts rules [] packets events)
