use Rattle.std.proofs.Common.{◌≡◌, ◌<◌, ◌^◌, length, take}
use Rattle.thread_records.specs.Joins.{all_outcomes}
use Rattle.run_scenario.proofs.histories.outcome_count.Given as goal

abbrev pub invariant-loop-node : goal.invariant-loop-node
invariant-loop-node l = (l.count ≡ length (all_outcomes (take l.node-index l.nodes))) × (l.count < 2 ^ 63)
