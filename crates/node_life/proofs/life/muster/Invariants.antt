use Rattle.std.proofs.Common.{◌≡◌, ◌+◌, ◌++◌, ℕ, List, length}
use Rattle.std.specs.Prelude.{None, IfSome}
use Rattle.cluster_node.specs.declared.outcomes.Outcome.{Outcome}
use Rattle.thread_records.specs.Ends.{all_handled}
use Rattle.thread_roles.specs.Counts.{Counts, served_from}
use Rattle.thread_roles.specs.Faults.{IsRefusal}
use Rattle.node_life.proofs.life.muster.Given as goal

abbrev pub invariant-loop-hand : goal.invariant-loop-hand
invariant-loop-hand g l = record {
  parts : l.told ≡ None → l.tally.shares.parts + length l.hand-iterator.rest.items ≡ l.initial.tally.shares.parts + length l.fn.hands.items;
  counts : l.told ≡ None → (os : List Outcome) (n : ℕ) → Counts l.initial.tally.lost l.initial.tally.shares os → Counts l.tally.lost l.tally.shares (os ++ served_from n 0 (all_handled l.records.items));
  fault : IfSome l.told (λ fault. IsRefusal fault);
}
