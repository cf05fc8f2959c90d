use Rattle.std.proofs.Common.{◌≡◌, ◌++◌, map, filter, All}
use Rattle.std.specs.List.{range_with_len}
use Rattle.rollout_order.specs.Orders.{IsKnown, plain_order, with_step, is_open}
use Rattle.rollout_order.proofs.orders.push_longer.Given as goal

abbrev pub invariant-loop-place : goal.invariant-loop-place
invariant-loop-place l = record {
  found : map plain_order l.found.items ≡ map plain_order l.initial.found.items ++ map (with_step l.rollout (plain_order l.order)) (filter (is_open l.order.marks.items) (range_with_len 0 l.place));
  known : All (IsKnown l.rollout) l.known.items;
}
