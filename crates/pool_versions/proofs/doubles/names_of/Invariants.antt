use Rattle.std.proofs.Common.{◌≡◌, ◌++◌, drop}
use Rattle.pool_versions.specs.Pool.{member_names}
use Rattle.pool_versions.proofs.doubles.names_of.Given as goal

abbrev pub invariant-loop-member : goal.invariant-loop-member
invariant-loop-member l = l.names.items ++ member_names (drop l.member-index l.members) ≡ member_names l.members
