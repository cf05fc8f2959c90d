-- The versions and backends of a split: each version's pick for the flow is the backend beside it.
use Rattle.std.specs.Prelude.{◌≡◌, ℕ, List, Some}
use Rattle.std.specs.List.{All}
use Rattle.pool_versions.specs.Pool.{Pools}
use Rattle.cluster_node.specs.Rules.{Rules}
use Rattle.cluster_node.specs.Records.{Judged}
use Rattle.cluster_node.specs.declared.events.LogEntry.{LogEntry}
use Rattle.cluster_core.specs.Runs.{verdict}
use Rattle.cluster_core.specs.Headline.{pick_under}
use Rattle.cluster_core.specs.Histories.{IsSteady}
use Rattle.cluster_core.specs.Tables.{AreMaglevs, named_under}
use Rattle.run_report.specs.declared.sending.Split.{Split}
use Rattle.run_report.specs.Splits.{splits_of}

-- the two versions pick the two backends for the flow
pub record FollowsPicks (rules : Rules) (p : Split) : Type 0 where
  pub first : pick_under rules p.first.origin p.later.flow ≡ Some p.first.backend
  pub later : pick_under rules p.later.origin p.later.flow ≡ Some p.later.backend

-- the two versions' tables name the two backends at the flow's slot
pub record FollowsTables (plain : List ℕ → ℕ) (size : ℕ) (pools : Pools) (p : Split) : Type 0 where
  pub first : named_under plain size pools p.first.origin p.later.flow ≡ Some p.first.backend
  pub later : named_under plain size pools p.later.origin p.later.flow ≡ Some p.later.backend

-- in every record whose outcomes are the verdicts, for a scheme to which the turn doesn't matter
abbrev pub SplitsFollowPicks : Type 0
SplitsFollowPicks = (rules : Rules) (past : List LogEntry) → IsSteady rules → Judged (verdict rules) past → All (FollowsPicks rules) (splits_of past)

-- and for Maglev in terms of tables
abbrev pub SplitsFollowTables : Type 0
SplitsFollowTables = (plain : List ℕ → ℕ) (size : ℕ) (pools : Pools) (rules : Rules) (past : List LogEntry) → AreMaglevs plain size pools rules →
    Judged (verdict rules) past →
    All (FollowsTables plain size pools) (splits_of past)
