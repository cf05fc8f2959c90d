use Rattle.std.proofs.Common.{◌≡◌, drop}
use Rattle.pool_versions.specs.Pool.{has_double, same_service}
use Rattle.pool_versions.proofs.doubles.walk_finds_double_service.Given as goal

abbrev pub invariant-loop-i : goal.invariant-loop-i
invariant-loop-i l = has_double same_service (drop l.i l.services) ≡ has_double same_service l.services
