use Rattle.std.proofs.Common.{◌≡◌, map, All}
use Rattle.rollout_order.specs.Orders.{IsKnown, plain_order, orders}
use Rattle.rollout_order.proofs.orders.all_orders.Given as goal

abbrev pub invariant-loop-step : goal.invariant-loop-step
invariant-loop-step l = record {
  found : map plain_order l.found.items ≡ orders l.rollout l._step;
  known : All (IsKnown l.rollout) l.known.items;
}
