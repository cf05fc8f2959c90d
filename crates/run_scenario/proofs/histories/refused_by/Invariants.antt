use Rattle.std.proofs.Common.{◌≡◌, ◌≤◌, length, take}
use Rattle.cluster_core.specs.OutcomeCounts.{is_refused, how_many}
use Rattle.thread_records.specs.Joins.{all_outcomes}
use Rattle.run_scenario.proofs.histories.refused_by.Given as goal

abbrev pub invariant-loop-node : goal.invariant-loop-node
invariant-loop-node l = (l.refused ≡ how_many (λ o. is_refused o) (all_outcomes (take l.node-index l.nodes))) × (l.refused ≤ length (all_outcomes (take l.node-index l.nodes)))
