use Rattle.std.proofs.Common.{◌≡◌, List, ◌++◌, drop, reverse}
use Rattle.cluster_node.specs.declared.events.LogEntry.{LogEntry}
use Rattle.connection_changes.specs.Books.{IsNotedChangeBookOf}
use Rattle.run_scenario.specs.Runs.{said_with}
use Rattle.run_scenario.proofs.histories.note_node.Given as goal

abbrev pub invariant-loop-at : goal.invariant-loop-at
invariant-loop-at l =
    (first : List LogEntry) → IsNotedChangeBookOf first l.initial.book →
    (past : List LogEntry) × IsNotedChangeBookOf past l.book × (reverse past ++ said_with l.packets (drop l.at l.events) (drop l.at l.outcomes.items) ≡ reverse first ++ said_with l.packets l.events l.outcomes.items)
