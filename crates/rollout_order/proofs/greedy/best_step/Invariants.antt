use Rattle.rollout_order.proofs.Best.{IsBestBelow}
use Rattle.rollout_order.proofs.greedy.best_step.Given as goal

abbrev pub invariant-loop-place : goal.invariant-loop-place
invariant-loop-place l = IsBestBelow l.rollout l.marks l.place l.best
