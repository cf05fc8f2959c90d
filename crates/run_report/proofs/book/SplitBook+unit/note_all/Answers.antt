use Rattle.std.proofs.Common.{◌≡◌, List, ◌++◌, ◌∷◌, None, reverse, ap, ◌∙◌, subst}
use Rattle.std.specs.Iterator.Adapters.{zip_first, zip_second}
use Rattle.std.specs.Slice.Iter.{iter_rest}
use Rattle.std.proofs.lemmas.Slice.Zip.{either_empty_from_Zip}
use Rattle.cluster_node.specs.declared.events.Event.{Event}
use Rattle.cluster_node.specs.declared.events.LogEntry.{LogEntry}
use Rattle.cluster_node.specs.declared.outcomes.Outcome.{Outcome}
use Rattle.run_report.specs.Splits.{said_of}
use Rattle.run_report.specs.Books.{IsBookOf}
use Rattle.run_report.proofs.SplitWalks.{said_more, said_behind}
use Rattle.run_report.proofs.book.SplitBook+unit.note_all.Goals as goal

pub loop-event-init : goal.loop-event-init
loop-event-init c =
    let first : iter_rest (zip_first c.into_iter-event-iterator.result) ≡ c.args.events.now = cc in
    let second : iter_rest (zip_second c.into_iter-event-iterator.result) ≡ c.args.outcomes.now = cc in
    λ past is. (past, is, ap (λ (es : List Event). reverse past ++ said_of es (iter_rest (zip_second c.into_iter-event-iterator.result))) first ∙ ap (λ (os : List Outcome). reverse past ++ said_of c.args.events.now os) second)

pub loop-event-preserved : goal.loop-event-preserved
loop-event-preserved c = λ first is.
    let was = c.loop-event.invariant first is in (
      record { event = c.in-Some.event.now; packet = None; outcome = c.in-Some.outcome.now } ∷ was.0,
      c.in_ok-note.ensures.of_record was.0 None was.1,
      said_more was.0 _ _ _ _ _ _ _ c.in-Some.ensures.steps.0 c.in-Some.ensures.steps.1 was.2,
    )

pub returns : goal.returns
returns c = λ first is.
    let was = c.loop-event.invariant first is in
    subst (λ (past : List LogEntry). IsBookOf past c.loop-event.self)
    (said_behind first was.0 _ _ _ (either_empty_from_Zip c.loop-event.event-iterator c.next.new.self c.next.result c.in-None.is c.next.ensures.steps) was.2)
    was.1
