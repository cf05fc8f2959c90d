use Rattle.std.proofs.Common.{◌≡◌, take, map}
use Rattle.pool_versions.specs.Same.{parts_of}
use Rattle.pool_versions.proofs.service.Version.copy.Given as goal

abbrev pub invariant-loop-service : goal.invariant-loop-service
invariant-loop-service l = map parts_of l.services.items ≡ take l.service-index (map parts_of l.self.services.items)
