use Rattle.std.proofs.Common.{◌≡◌, length}
use Rattle.std.specs.List.{All}
use Rattle.bench_populate.proofs.lists_of.Given as goal

abbrev pub invariant-loop-name : goal.invariant-loop-name
invariant-loop-name l = record {
  sized : All (λ p. p.size ≡ l.size) l.lists.items;
  each : length l.lists.items ≡ l.name-index;
}
