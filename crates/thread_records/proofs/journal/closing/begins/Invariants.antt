use Rattle.std.proofs.Common.{◌≡◌, take}
use Rattle.thread_records.specs.Ends.{items_of}
use Rattle.thread_records.proofs.journal.closing.begins.Given as goal

abbrev pub invariant-loop-at : goal.invariant-loop-at
invariant-loop-at l = items_of (take l.at l.handled.items) ≡ take l.at l.placed
