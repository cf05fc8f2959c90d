use Rattle.std.proofs.Common.{take}
use Rattle.connection_changes.specs.Books.{IsNotedChangeBookOf}
use Rattle.run_scenario.specs.PrivateHistories.{said_whole}
use Rattle.run_scenario.proofs.histories.changes_of.Given as goal

abbrev pub invariant-loop-node : goal.invariant-loop-node
invariant-loop-node l = IsNotedChangeBookOf (said_whole l.packets (take l.node-index l.nodes)) l.book
