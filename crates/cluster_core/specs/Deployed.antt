-- A setup and a catalogue that fit, and the cluster that they give.
use Rattle.std.specs.Prelude.{◌≤◌, ℕ, List, reverse}
use Rattle.forwarder.specs.Serving.{Pick}
use Rattle.pool_versions.specs.Pool.{Pools}
use Rattle.cluster_node.specs.declared.events.LogEntry.{LogEntry}
use Rattle.cluster_node.specs.Rules.{Rules}
use Rattle.cluster_node.specs.Records.{Judged}
use Rattle.cluster_core.specs.Setups.{Fixed, rules_for}
use Rattle.cluster_core.specs.Runs.{verdict, cluster_by}
use Rattle.cluster_core.specs.Totals.{came_all, went_all}
use Rattle.cluster_core.specs.Explain.{PickedSends}
use Rattle.cluster_core.specs.Histories.{outcomes_of}
use Rattle.cluster_core.specs.Cluster.{Cluster}

-- what is fixed for a run
pub record Deployed (S H : Type 0) : Type 0 where
  pub setup : Fixed S H
  pub catalogue : Pools

abbrev pub rules_of : {S H : Type 0} → (S → ℕ → Pick) → (H → List ℕ → ℕ) → Deployed S H → Rules
rules_of pick_of plain_of r = rules_for pick_of plain_of r.setup r.catalogue

-- the cluster of its rules
abbrev pub cluster_of : {S H : Type 0} → (S → ℕ → Pick) → (H → List ℕ → ℕ) → Deployed S H → Cluster
cluster_of pick_of plain_of r = cluster_by (rules_of pick_of plain_of r)

-- by a history, which has the oldest event in front, what left the queues is no more than what was placed
abbrev pub IsBalanced : List LogEntry → Type 0
IsBalanced history = went_all (outcomes_of history) ≤ came_all (outcomes_of history)

-- in the history of every record that was judged, what was sent went to the pick under its origin
abbrev pub SendsArePicked : Rules → Type 0
SendsArePicked rules = (past : List LogEntry) → Judged (verdict rules) past → PickedSends rules (outcomes_of (reverse past))
