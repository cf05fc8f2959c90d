use Rattle.std.proofs.Common.{◌≡◌, take}
use Rattle.std.specs.List.{flat_map}
use Rattle.rollout_order.specs.Rollouts.{leaving}
use Rattle.rollout_order.proofs.rollout.leaving.Given as goal

abbrev pub invariant-loop-change : goal.invariant-loop-change
invariant-loop-change l = l.found.items ≡ flat_map leaving (take l.change-index l.changes)
