use Rattle.cluster_node.specs.declared.events.LogEntry.{LogEntry}
use Rattle.run_report.proofs.Noting.{noted_more}
use Rattle.run_report.proofs.book.SplitBook.note.Goals as goal

pub returns-clause-settled : goal.returns-clause-settled
returns-clause-settled g c = λ all h.
    let more = c.in_ok-send.ensures.settled all h in
    record { last = more.last; flows = more.flows; splits = more.splits; besides = more.besides }

pub returns-clause-of_record : goal.returns-clause-of_record
returns-clause-of_record g c = λ past packet h.
    let s : LogEntry = record { event = c.args.event.now; packet = packet; outcome = c.args.outcome.now } in
    noted_more s past c.args.self.now _ c.args.beside h c.in_ok-number.ensures (returns-clause-settled g c)
