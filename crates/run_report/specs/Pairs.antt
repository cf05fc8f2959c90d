-- The splits of a record are all pairs of sends of one flow to different backends, with no send of that flow between them.
use Rattle.std.specs.Prelude.{◌≡◌, ◌<◌, ◌↔◌, ℕ, List, map, reverse, Option, Some, slice_get, option_and_then}
use Rattle.std.specs.List.{All, Contains, IsDistinct}
use Rattle.std.specs.List.Sorted.{IsStrictlyIncreasing}
use Rattle.five_tuple.specs.declared.Flow.{Flow}
use Rattle.connection_table.specs.Touches.{same_flow}
use Rattle.cluster_node.specs.declared.events.LogEntry.{LogEntry}
use Rattle.cluster_core.specs.Explain.{Send, send_of, explained}
use Rattle.cluster_core.specs.declared.explaining.Verdict.TheVariants as verdict
use Rattle.run_report.specs.declared.sending.Sending.{Sending}
use Rattle.run_report.specs.declared.sending.Split.{Split}
use Rattle.run_report.specs.Splits.{sent_by, sent_at, splits_of, flows_of}

-- two sends of one flow to different backends, with no send of that flow between them
pub record IsSplit (past : List LogEntry) (p : Split) : Type 0 where
  pub first : sent_at past p.first.number ≡ Some p.first
  pub later : sent_at past p.later.number ≡ Some p.later
  pub order : p.first.number < p.later.number
  pub flow : p.first.flow ≡ p.later.flow
  pub apart : p.first.backend ≡ p.later.backend → ⊥
  pub between : (k : ℕ) (s : Sending) → p.first.number < k → k < p.later.number → sent_at past k ≡ Some s → s.flow ≡ p.later.flow → ⊥

-- the list has each of them, and no other, in the order of the later sends
pub record AreSplits (past : List LogEntry) (ps : List Split) : Type 0 where
  pub each : All (IsSplit past) ps
  pub whole : (p : Split) → IsSplit past p → Contains ps p
  pub ascending : IsStrictlyIncreasing (map (λ p. p.later.number) ps)

-- a packet of the flow was sent
pub record WasSent (past : List LogEntry) (x : Flow) : Type 0 where
  pub place : ℕ
  pub sending : Sending
  pub there : sent_at past place ≡ Some sending
  pub flow : sending.flow ≡ x

-- the list has each flow of which a packet was sent once, and no other
pub record AreFlows (past : List LogEntry) (xs : List Flow) : Type 0 where
  pub sent : (x : Flow) → Contains xs x ↔ WasSent past x
  pub distinct : IsDistinct (λ x y. same_flow x y) xs

-- what was sent at an event is what the history, which has the oldest event in front, has at its number
abbrev pub HistoriesTellSends : Type 0
HistoriesTellSends = (past : List LogEntry) (k : ℕ) → sent_at past k ≡ option_and_then (λ s. sent_by k s.event s.outcome) (slice_get (reverse past) k)

abbrev pub RecordsHaveSplits : Type 0
RecordsHaveSplits = (past : List LogEntry) → AreSplits past (splits_of past)

abbrev pub RecordsHaveFlows : Type 0
RecordsHaveFlows = (past : List LogEntry) → AreFlows past (flows_of past)

-- what the history sent at an event
abbrev pub send_in : List LogEntry → ℕ → Option Send
send_in history k = option_and_then (λ s. send_of s.outcome) (slice_get history k)

-- the two events of a split are explained as one, by its versions and backends
abbrev pub SplitsAreExplained : Type 0
SplitsAreExplained = (past : List LogEntry) (slot : Flow → ℕ) →
    All (λ p. explained slot (send_in (reverse past) p.first.number) (send_in (reverse past) p.later.number)
    ≡ verdict.Split (slot p.first.flow) p.first.origin p.later.origin p.first.backend p.later.backend) (splits_of past)
