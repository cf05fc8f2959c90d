use Rattle.std.proofs.Common.{◌≡◌, ◌++◌, drop}
use Rattle.pool_versions.specs.Pool.{service_keys}
use Rattle.pool_versions.proofs.doubles.keys_of.Given as goal

abbrev pub invariant-loop-service : goal.invariant-loop-service
invariant-loop-service l = l.keys.items ++ service_keys (drop l.service-index l.services) ≡ service_keys l.services
