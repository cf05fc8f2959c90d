use Rattle.std.proofs.Common.{◌≡◌, ◌≤◌, ◌++◌, length, map, take, drop}
use Rattle.thread_records.specs.Lean.{send_of}
use Rattle.thread_records.specs.Merges.{sends_of}
use Rattle.thread_records.proofs.merging.same_sends.Given as goal

abbrev pub invariant-loop-number : goal.invariant-loop-number
invariant-loop-number l = (l.at ≤ length l.life) × (sends_of l.worker l.life ≡ sends_of l.worker (take l.number-index (map (λ n. send_of l.outcomes.items n) l.sent)) ++ sends_of l.worker (drop l.at l.life))
