use Rattle.std.proofs.Common.{◌≡◌, map, take}
use Rattle.thread_records.specs.Lean.{sends_told}
use Rattle.thread_records.proofs.lean.opened.Given as goal

abbrev pub invariant-loop-life : goal.invariant-loop-life
invariant-loop-life l = map (λ v. v.items) l.lists.items ≡ sends_told l.outcomes.items (take l.life-index l.sent)
