use Rattle.std.proofs.Common.{◌≡◌, [], length, map, replicate}
use Rattle.thread_records.proofs.journal.empty_lists.Given as goal

abbrev pub invariant-loop : goal.invariant-loop
invariant-loop l = (map (λ w. w.items) l.lists.items ≡ replicate l.counter []) × (length l.lists.items ≡ l.counter)
