use Rattle.std.proofs.Common.{[], List, subst, reverse}
use Rattle.std.proofs.lemmas.List.{append-nil}
use Rattle.cluster_node.specs.declared.events.LogEntry.{LogEntry}
use Rattle.run_report.specs.Splits.{said_of}
use Rattle.run_report.specs.Books.{IsBookOf}
use Rattle.run_report.proofs.book.SplitBook+unit.of_history.Goals as goal

pub returns : goal.returns
returns c = subst (λ (past : List LogEntry). IsBookOf past c.note_all.new.self) (append-nil (reverse (said_of c.args.events.now c.args.outcomes.now)))
    (c.in_ok-note_all.ensures [] c.new-book.ensures.of_none)
