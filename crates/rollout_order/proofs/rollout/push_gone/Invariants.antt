use Rattle.std.proofs.Common.{◌≡◌, ◌++◌, map, take}
use Rattle.rollout_plan.specs.Text.{services_gone}
use Rattle.rollout_order.specs.Rollouts.{plain_change, gone_change}
use Rattle.rollout_order.proofs.rollout.push_gone.Given as goal

abbrev pub invariant-loop-service : goal.invariant-loop-service
invariant-loop-service l = map plain_change l.changes.items ≡ map plain_change l.initial.changes.items ++ map gone_change (services_gone (take l.service-index l.services) l.after)
