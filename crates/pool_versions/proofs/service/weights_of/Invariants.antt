use Rattle.std.proofs.Common.{◌≡◌, map, take}
use Rattle.pool_versions.proofs.service.weights_of.Given as goal

abbrev pub invariant-loop-member : goal.invariant-loop-member
invariant-loop-member l = l.weights.items ≡ map (λ m. m.weight) (take l.member-index l.members)
