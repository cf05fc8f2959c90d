use Rattle.std.proofs.Common.{◌≡◌, List, ◌++◌, drop, reverse}
use Rattle.cluster_node.specs.declared.events.LogEntry.{LogEntry}
use Rattle.connection_starts.specs.declared.ordinals.Ordinals.{Ordinals}
use Rattle.connection_changes.specs.TurnedBooks.{IsTurnedBookOf}
use Rattle.run_scenario.specs.Runs.{said_with}
use Rattle.run_scenario.proofs.turned_histories.note_node.Given as goal

abbrev pub invariant-loop-at : goal.invariant-loop-at
invariant-loop-at l =
    (o : Ordinals) (first : List LogEntry) → IsTurnedBookOf o first l.initial.book →
    (past : List LogEntry) × IsTurnedBookOf o past l.book × (reverse past ++ said_with l.packets (drop l.at l.events) (drop l.at l.outcomes.items) ≡ reverse first ++ said_with l.packets l.events l.outcomes.items)
