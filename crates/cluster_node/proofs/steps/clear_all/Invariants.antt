use Rattle.std.proofs.Common.{◌≡◌, ◌%◌, ◌^◌, take}
use Rattle.cluster_node.specs.Record.{waits}
use Rattle.cluster_node.proofs.Clearing.{cleared_first}
use Rattle.cluster_node.proofs.steps.clear_all.Given as goal

abbrev pub invariant-loop-at : goal.invariant-loop-at
invariant-loop-at g l = (l.workers.items ≡ cleared_first l.at l.initial.workers.items) × (l.lost ≡ waits (take l.at l.initial.workers.items) % 2 ^ 64)
