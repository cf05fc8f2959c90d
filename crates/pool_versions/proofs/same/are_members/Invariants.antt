use Rattle.std.proofs.Common.{◌≡◌, take}
use Rattle.pool_versions.proofs.same.are_members.Given as goal

abbrev pub invariant-loop-at : goal.invariant-loop-at
invariant-loop-at l = take l.at l.members ≡ take l.at l.others
