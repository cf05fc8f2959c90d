use Rattle.std.proofs.Common.{◌≡◌, ◌++◌, drop}
use Rattle.pool_versions.specs.Pool.{draining_members}
use Rattle.pool_versions.proofs.service.draining_members.Given as goal

abbrev pub invariant-loop-member : goal.invariant-loop-member
invariant-loop-member l = l.found.items ++ draining_members (drop l.member-index l.members) ≡ draining_members l.members
