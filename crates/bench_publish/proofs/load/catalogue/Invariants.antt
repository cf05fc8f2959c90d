use Rattle.std.proofs.Common.{◌≡◌}
use Rattle.bench_publish.proofs.load.catalogue.Given as goal

abbrev pub invariant-loop-number : goal.invariant-loop-number
invariant-loop-number l = l.catalogue.size ≡ l.fn.size
