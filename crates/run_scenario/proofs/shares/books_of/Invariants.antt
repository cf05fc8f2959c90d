use Rattle.std.proofs.Common.{take}
use Rattle.traffic_shares.specs.Books.{AreShareBooksOf}
use Rattle.run_scenario.specs.PrivateHistories.{said_whole}
use Rattle.run_scenario.proofs.shares.books_of.Given as goal

abbrev pub invariant-loop-node : goal.invariant-loop-node
invariant-loop-node l = AreShareBooksOf l.fn.asked (said_whole l.packets (take l.node-index l.nodes)) l.books
