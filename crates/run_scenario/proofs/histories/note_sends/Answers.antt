use Rattle.std.proofs.Common.{◌∷◌, List, None, refl, sym, inl, inr, subst, arith}
use Rattle.std.proofs.lemmas.List.{drop_more, drop_all}
use Rattle.cluster_node.specs.declared.events.LogEntry.{LogEntry}
use Rattle.run_report.specs.Books.{IsBookOf}
use Rattle.run_report.proofs.SplitWalks.{said_more, said_behind}
use Rattle.run_scenario.proofs.Whole.{drop_at, drop_past}
use Rattle.run_scenario.proofs.histories.note_sends.Goals as goal

pub loop-at-init : goal.loop-at-init
loop-at-init c = λ past is. (past, is, refl)

pub loop-at-preserved : goal.loop-at-preserved
loop-at-preserved c = λ first is.
    let was = c.loop-at.invariant first is in (
      record { event = _; packet = None; outcome = c.in-Some.outcome } ∷ was.0,
      c.in_ok-note.ensures.of_record was.0 None was.1,
      said_more was.0 _ _ _ _ _ _ _ (drop_more c.args.events.now c.loop-at.at _ c.loop-at-test.true)
          (drop_at c.args.outcomes.now.items c.loop-at.at c.in-Some.outcome (sym c.in-Some.ensures)) was.2,
    )

pub returns-in_default : goal.returns-in_default
returns-in_default c = λ first is.
    let was = c.loop-at.invariant first is in
    subst (λ (past : List LogEntry). IsBookOf past c.loop-at.book)
    (said_behind first was.0 _ _ _ (inr (drop_past c.args.outcomes.now.items c.loop-at.at (sym c.in_default.ensures))) was.2)
    was.1

pub returns : goal.returns
returns c = λ first is.
    let was = c.loop-at.invariant first is in
    subst (λ (past : List LogEntry). IsBookOf past c.loop-at.book)
    (said_behind first was.0 _ _ _ (inl (drop_all c.loop-at.at c.args.events.now (omega (arith, c.loop-at-test.false)))) was.2)
    was.1
