use Rattle.std.proofs.Common.{◌≡◌, map, take}
use Rattle.pool_versions.proofs.service.backends_of.Given as goal

abbrev pub invariant-loop-member : goal.invariant-loop-member
invariant-loop-member l = l.backends.items ≡ map (λ m. m.backend) (take l.member-index l.members)
