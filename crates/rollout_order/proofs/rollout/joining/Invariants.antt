use Rattle.std.proofs.Common.{◌≡◌, take}
use Rattle.std.specs.List.{flat_map}
use Rattle.rollout_order.specs.Rollouts.{joining}
use Rattle.rollout_order.proofs.rollout.joining.Given as goal

abbrev pub invariant-loop-change : goal.invariant-loop-change
invariant-loop-change l = l.found.items ≡ flat_map joining (take l.change-index l.changes)
