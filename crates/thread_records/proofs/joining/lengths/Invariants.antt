use Rattle.std.proofs.Common.{◌≡◌, ◌%◌, ◌^◌, length, take}
use Rattle.thread_records.specs.Joins.{all_events, all_outcomes}
use Rattle.thread_records.proofs.joining.lengths.Given as goal

abbrev pub invariant-loop-node : goal.invariant-loop-node
invariant-loop-node l = (l.events ≡ length (all_events (take l.node-index l.nodes)) % 2 ^ 64) × (l.outcomes ≡ length (all_outcomes (take l.node-index l.nodes)) % 2 ^ 64)
