use Rattle.std.proofs.Common.{◌≡◌, take, map}
use Rattle.pool_versions.specs.Same.{parts_of}
use Rattle.pool_versions.proofs.same.are_services.Given as goal

abbrev pub invariant-loop-at : goal.invariant-loop-at
invariant-loop-at l = take l.at (map parts_of l.services) ≡ take l.at (map parts_of l.others)
