use Rattle.std.proofs.Common.{◌≡◌, length, map}
use Rattle.thread_records.proofs.Writing.{cleared}
use Rattle.thread_records.proofs.journal.closing.clear_all.Given as goal

abbrev pub invariant-loop-at : goal.invariant-loop-at
invariant-loop-at l = (length l.placed.items ≡ length l.fn.placed.items) × (map (λ v. v.items) l.placed.items ≡ cleared l.at (map (λ v. v.items) l.fn.placed.items))
