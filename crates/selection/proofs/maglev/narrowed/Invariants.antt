use Rattle.std.proofs.Common.{◌≡◌, take}
use Rattle.selection.proofs.maglev.narrowed.Given as goal

abbrev pub invariant-loop-slot : goal.invariant-loop-slot
invariant-loop-slot l = l.places.items ≡ take l.slot l.table.owners
