use Rattle.std.proofs.Common.{◌≡◌, replicate}
use Rattle.cluster_node.specs.Record.{fresh}
use Rattle.cluster_node.proofs.steps.Node.make.Given as goal

abbrev pub invariant-loop : goal.invariant-loop
invariant-loop g l = l.all.items ≡ replicate l.counter (fresh l.capacity l.idle)
