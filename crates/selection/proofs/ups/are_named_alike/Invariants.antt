use Rattle.std.proofs.Common.{◌≡◌, take}
use Rattle.selection.specs.Shared.{names_of}
use Rattle.selection.proofs.ups.are_named_alike.Given as goal

abbrev pub invariant-loop-at : goal.invariant-loop-at
invariant-loop-at l = take l.at (names_of l.ups) ≡ take l.at (names_of l.others)
