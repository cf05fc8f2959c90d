use Rattle.std.proofs.Common.{take}
use Rattle.run_report.specs.Books.{IsBookOf}
use Rattle.run_scenario.specs.PrivateHistories.{said_by}
use Rattle.run_scenario.proofs.histories.book_of.Given as goal

abbrev pub invariant-loop-node : goal.invariant-loop-node
invariant-loop-node l = IsBookOf (said_by (take l.node-index l.nodes)) l.book
