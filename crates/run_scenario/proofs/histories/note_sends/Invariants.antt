use Rattle.std.proofs.Common.{◌≡◌, List, ◌++◌, drop, reverse}
use Rattle.cluster_node.specs.declared.events.LogEntry.{LogEntry}
use Rattle.run_report.specs.Splits.{said_of}
use Rattle.run_report.specs.Books.{IsBookOf}
use Rattle.run_scenario.proofs.histories.note_sends.Given as goal

abbrev pub invariant-loop-at : goal.invariant-loop-at
invariant-loop-at l =
    (first : List LogEntry) → IsBookOf first l.initial.book →
    (past : List LogEntry) × IsBookOf past l.book × (reverse past ++ said_of (drop l.at l.events) (drop l.at l.outcomes.items) ≡ reverse first ++ said_of l.events l.outcomes.items)
