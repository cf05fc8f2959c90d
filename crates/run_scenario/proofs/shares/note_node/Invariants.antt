use Rattle.std.proofs.Common.{◌≡◌, List, ◌++◌, drop, reverse}
use Rattle.cluster_node.specs.declared.events.LogEntry.{LogEntry}
use Rattle.traffic_shares.specs.declared.books.AskedShares.{AskedShares}
use Rattle.traffic_shares.specs.Books.{AreShareBooksOf}
use Rattle.run_scenario.specs.Runs.{said_with}
use Rattle.run_scenario.proofs.shares.note_node.Given as goal

abbrev pub invariant-loop-at : goal.invariant-loop-at
invariant-loop-at l =
    (asked : AskedShares) (first : List LogEntry) → AreShareBooksOf asked first l.initial.books →
    (past : List LogEntry) × AreShareBooksOf asked past l.books × (reverse past ++ said_with l.packets (drop l.at l.events) (drop l.at l.outcomes.items) ≡ reverse first ++ said_with l.packets l.events l.outcomes.items)
