use Rattle.std.proofs.Common.{◌≡◌, replicate, []}
use Rattle.cluster_node.specs.Record.{fresh}
use Rattle.shared_versions.proofs.replay.fresh_nodes.Given as goal

abbrev pub invariant-loop : goal.invariant-loop
invariant-loop g l = l.nodes.items ≡ replicate l.counter (record { newest = 0; installed = []; cursor = 0; workers = replicate l.workers (fresh l.setup.capacity l.setup.idle) })
