use Rattle.std.proofs.Common.{◌≡◌}
use Rattle.std.specs.List.{flat_map, range_with_len}
use Rattle.rollout_order.specs.Steps.{marked_at}
use Rattle.rollout_order.proofs.names.marked.Given as goal

abbrev pub invariant-loop-place : goal.invariant-loop-place
invariant-loop-place l = l.found.items ≡ flat_map (marked_at l.marks l.names) (range_with_len 0 l.place)
