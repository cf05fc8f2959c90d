use Rattle.std.proofs.Common.{◌≡◌, ℕ, length}
use Rattle.thread_records.specs.Ends.{all_handled}
use Rattle.thread_roles.specs.Counts.{served_from}
use Rattle.node_life.proofs.life.fill.Given as goal

abbrev pub invariant-loop : goal.invariant-loop
invariant-loop g l = record {
  all : length l.records.items ≡ l.counter;
  counts : (n : ℕ) → served_from n 0 (all_handled l.records.items) ≡ served_from n 0 (all_handled l.initial.records.items);
}
