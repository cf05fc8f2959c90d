use Rattle.std.proofs.Common.{◌≡◌, ◌<◌, ℕ, map}
use Rattle.thread_records.specs.Lean.{send_of}
use Rattle.thread_records.specs.Merges.{sends_of}
use Rattle.thread_records.proofs.merging.is_merge.Given as goal

abbrev pub invariant-loop-worker : goal.invariant-loop-worker
invariant-loop-worker l = (w : ℕ) → w < l.worker → sends_of w (map (λ n. send_of l.outcomes.items n) l.sent) ≡ sends_of w l.life
