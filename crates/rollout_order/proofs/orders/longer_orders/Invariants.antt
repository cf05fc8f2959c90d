use Rattle.std.proofs.Common.{◌≡◌, map, take, All}
use Rattle.std.specs.List.{flat_map}
use Rattle.rollout_order.specs.Orders.{IsKnown, plain_order, with_steps}
use Rattle.rollout_order.proofs.orders.longer_orders.Given as goal

abbrev pub invariant-loop-order : goal.invariant-loop-order
invariant-loop-order l = record {
  found : map plain_order l.found.items ≡ flat_map (with_steps l.rollout) (map plain_order (take l.order-index l.shorter));
  known : All (IsKnown l.rollout) l.known.items;
}
