use Rattle.std.proofs.Common.{◌≡◌, length}
use Rattle.bench_populate.proofs.weights_of.Given as goal

abbrev pub invariant-loop-name : goal.invariant-loop-name
invariant-loop-name l = length l.weights.items ≡ l.name-index
