use Rattle.rollout_order.specs.Orders.{plain_order, IsGreedy}
use Rattle.rollout_order.proofs.greedy.greedy_order.Given as goal

abbrev pub invariant-loop-step : goal.invariant-loop-step
invariant-loop-step l = IsGreedy l.rollout l._step (plain_order l.order)
