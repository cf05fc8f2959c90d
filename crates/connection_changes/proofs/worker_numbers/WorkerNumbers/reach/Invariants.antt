use Rattle.std.proofs.Common.{◌≡◌, ℕ, length}
use Rattle.connection_changes.specs.Books.{worker_number}
use Rattle.connection_changes.proofs.worker_numbers.WorkerNumbers.reach.Given as goal

abbrev pub invariant-loop : goal.invariant-loop
invariant-loop l = record {
  long : l.counter ≡ length l.self.nodes.items;
  same : (n w : ℕ) → worker_number l.self n w ≡ worker_number l.initial.self n w;
}
