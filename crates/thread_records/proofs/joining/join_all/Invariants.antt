use Rattle.std.proofs.Common.{◌≡◌, take}
use Rattle.thread_records.specs.Joins.{all_events, all_outcomes}
use Rattle.thread_records.proofs.joining.join_all.Given as goal

abbrev pub invariant-loop-node : goal.invariant-loop-node
invariant-loop-node l = (l.events.items ≡ all_events (take l.node-index l.nodes)) × (l.outcomes.items ≡ all_outcomes (take l.node-index l.nodes))
