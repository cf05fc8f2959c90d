use Rattle.std.proofs.Common.{◌≡◌, take}
use Rattle.selection.proofs.ups.are_same.Given as goal

abbrev pub invariant-loop-at : goal.invariant-loop-at
invariant-loop-at l = take l.at l.ups ≡ take l.at l.others
