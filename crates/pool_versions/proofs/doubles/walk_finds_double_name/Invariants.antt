use Rattle.std.proofs.Common.{◌≡◌, drop}
use Rattle.pool_versions.specs.Pool.{has_double, same_name}
use Rattle.pool_versions.proofs.doubles.walk_finds_double_name.Given as goal

abbrev pub invariant-loop-i : goal.invariant-loop-i
invariant-loop-i l = has_double same_name (drop l.i l.members) ≡ has_double same_name l.members
