use Rattle.std.proofs.Common.{◌≡◌, length}
use Rattle.node_life.proofs.ends.numbered.Given as goal

abbrev pub invariant-loop-serving : goal.invariant-loop-serving
invariant-loop-serving g l = length l.numbers.items ≡ l.serving-index
