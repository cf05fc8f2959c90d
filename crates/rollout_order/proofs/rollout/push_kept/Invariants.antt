use Rattle.std.proofs.Common.{◌≡◌, ◌++◌, map, take}
use Rattle.rollout_order.specs.Rollouts.{plain_change, kept_change}
use Rattle.rollout_order.proofs.rollout.push_kept.Given as goal

abbrev pub invariant-loop-service : goal.invariant-loop-service
invariant-loop-service l = map plain_change l.changes.items ≡ map plain_change l.initial.changes.items ++ map (kept_change l.before) (take l.service-index l.services)
