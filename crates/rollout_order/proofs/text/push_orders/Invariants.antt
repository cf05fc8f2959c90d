use Rattle.std.proofs.Common.{◌≡◌, ◌++◌, take, string_bytes}
use Rattle.std.specs.List.{flat_map}
use Rattle.rollout_order.specs.Text.{order_line_as}
use Rattle.rollout_order.proofs.text.push_orders.Given as goal

abbrev pub invariant-loop-order : goal.invariant-loop-order
invariant-loop-order l = string_bytes l.text ≡ string_bytes l.initial.text ++ flat_map (order_line_as l.form l.rollout) (take l.order-index l.orders)
