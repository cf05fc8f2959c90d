use Rattle.std.proofs.Common.{◌≡◌, take, []}
use Rattle.rollout_order.specs.Rollouts.{names_behind}
use Rattle.rollout_order.proofs.names.names_of.Given as goal

abbrev pub invariant-loop-backend : goal.invariant-loop-backend
invariant-loop-backend l = l.names.items ≡ names_behind [] (take l.backend-index l.backends)
