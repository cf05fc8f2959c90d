use Rattle.std.proofs.Common.{◌<◌, ℕ, map}
use Rattle.thread_records.specs.Journals.{placed_on}
use Rattle.thread_records.specs.Ends.{all_handled, handled_by, ServesPlaced}
use Rattle.thread_records.proofs.journal.closing.all_serve_placed.Given as goal

abbrev pub invariant-loop-at : goal.invariant-loop-at
invariant-loop-at g l = (w : ℕ) → w < l.at → ServesPlaced l.drained (placed_on (map (λ v. v.items) l.placed) w) (handled_by (all_handled l.workers) w)
