use Rattle.std.proofs.Common.{◌≡◌, List, ◌++◌, reverse}
use Rattle.std.specs.Iterator.Adapters.{zip_first, zip_second}
use Rattle.std.specs.Slice.Iter.{iter_rest}
use Rattle.cluster_node.specs.declared.events.LogEntry.{LogEntry}
use Rattle.run_report.specs.Splits.{said_of}
use Rattle.run_report.specs.Books.{IsBookOf}
use Rattle.run_report.proofs.book.SplitBook+unit.note_all.Given as goal

abbrev pub invariant-loop-event : goal.invariant-loop-event
invariant-loop-event l =
    (first : List LogEntry) → IsBookOf first l.initial.self →
    (past : List LogEntry) × IsBookOf past l.self × (reverse past ++ said_of (iter_rest (zip_first l.event-iterator)) (iter_rest (zip_second l.event-iterator)) ≡ reverse first ++ said_of l.events l.outcomes)
