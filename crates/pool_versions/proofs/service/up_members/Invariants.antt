use Rattle.std.proofs.Common.{◌≡◌, ◌++◌, drop}
use Rattle.pool_versions.specs.Pool.{up_members}
use Rattle.pool_versions.proofs.service.up_members.Given as goal

abbrev pub invariant-loop-member : goal.invariant-loop-member
invariant-loop-member l = l.found.items ++ up_members (drop l.member-index l.members) ≡ up_members l.members
