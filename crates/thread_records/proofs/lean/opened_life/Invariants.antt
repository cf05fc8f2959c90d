use Rattle.std.proofs.Common.{◌≡◌, map, take}
use Rattle.thread_records.specs.Lean.{send_of}
use Rattle.thread_records.proofs.lean.opened_life.Given as goal

abbrev pub invariant-loop-number : goal.invariant-loop-number
invariant-loop-number l = l.list.items ≡ map (λ n. send_of l.outcomes.items n) (take l.number-index l.life)
