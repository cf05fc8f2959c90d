use Rattle.std.proofs.Common.{◌≡◌, ◌++◌, map}
use Rattle.std.specs.List.{range_with_len}
use Rattle.scenario.specs.Steps.{plain_timed}
use Rattle.scenario.specs.Told.{at_node}
use Rattle.scenario.proofs.told.add_each.Given as goal

abbrev pub invariant-loop-node : goal.invariant-loop-node
invariant-loop-node l = map plain_timed l.steps.items ≡ map plain_timed l.fn.steps.items ++ map (at_node l.each) (range_with_len 0 l.node)
