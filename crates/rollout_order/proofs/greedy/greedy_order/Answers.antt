use Rattle.std.proofs.Common.{ℕ, sym, subst, add-one}
use Rattle.rollout_order.specs.Orders.{IsGreedy, plain_order}
use Rattle.rollout_order.proofs.greedy.greedy_order.Goals as goal

pub loop-step-preserved : goal.loop-step-preserved
loop-step-preserved c = subst (λ (n : ℕ). IsGreedy c.args.rollout.now n (plain_order c.in_ok-order-2.order)) (sym (add-one c.loop-step._step)) (plain_order c.loop-step.order, c.loop-step.invariant, c.in_ok-order-2.ensures)
