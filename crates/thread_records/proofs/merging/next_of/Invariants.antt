use Rattle.std.proofs.Common.{◌≡◌, drop}
use Rattle.thread_records.specs.Merges.{sends_of}
use Rattle.thread_records.proofs.merging.next_of.Given as goal

abbrev pub invariant-loop-at : goal.invariant-loop-at
invariant-loop-at l = sends_of l.worker (drop l.from l.life) ≡ sends_of l.worker (drop l.at l.life)
