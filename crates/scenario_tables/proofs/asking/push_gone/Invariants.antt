use Rattle.std.proofs.Common.{◌≡◌, ◌++◌, map, take}
use Rattle.pool_versions.specs.Pool.{key_of}
use Rattle.rollout_plan.specs.Text.{services_gone}
use Rattle.scenario_tables.proofs.asking.push_gone.Given as goal

abbrev pub invariant-loop-service : goal.invariant-loop-service
invariant-loop-service l = l.keys.items ≡ l.initial.keys.items ++ map key_of (services_gone (take l.service-index l.services) l.after)
