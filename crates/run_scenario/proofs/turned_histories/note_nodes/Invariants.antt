use Rattle.std.proofs.Common.{[], take}
use Rattle.connection_starts.specs.declared.ordinals.Ordinals.{Ordinals}
use Rattle.connection_changes.specs.TurnedBooks.{IsTurnedBookOf}
use Rattle.run_scenario.specs.PrivateHistories.{said_whole}
use Rattle.run_scenario.proofs.turned_histories.note_nodes.Given as goal

abbrev pub invariant-loop-node : goal.invariant-loop-node
invariant-loop-node l = (o : Ordinals) → IsTurnedBookOf o [] l.initial.book → IsTurnedBookOf o (said_whole l.packets (take l.node-index l.nodes)) l.book
