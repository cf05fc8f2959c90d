use Rattle.std.proofs.Common.{◌≡◌, ◌+◌, length, sym, subst, ap, ◌∙◌, arith}
use Rattle.std.proofs.lemmas.Result.{IfOk-at_ok, MatchResult-at_err}
use Rattle.cluster_core.specs.Setups.{rules_for}
use Rattle.thread_roles.specs.Assigned.{asked_in}
use Rattle.thread_roles.specs.Going.{LifeView, IsLived, Asked}
use Rattle.thread_roles.specs.declared.fault.RunFault.TheVariants.{Memory}
use Rattle.node_life.specs.Told.{LifeTells}
use Rattle.node_life.proofs.Telling.{match_exit, is_memory, refusal_tells, end_tells}
use Rattle.node_life.proofs.life.drive_crew.Goals as goal

pub end_driven-requires-clause-counts : goal.end_driven-requires-clause-counts
end_driven-requires-clause-counts g c = λ read. c.in_ok-workers-in-Ok.ensures.counts c.in-Ok.driven.journal.outcomes c.in-Ok.driven.journal.node (IfOk-at_ok _ c.in-Ok.is (c.drive-driven.ensures.counts read))

pub returns-in_err-gathered-in-Ok : goal.returns-in_err-gathered-in-Ok
returns-in_err-gathered-in-Ok g c = match_exit _ _ c.from_residual.result Memory c.from_residual.ensures.1 (refusal_tells (λ x y. g.S.PartialEq.eq x y) (rules_for (λ s z. g.S.Scheme.pick s z) (λ h. g.H.FlowHash.plain h) c.args.life.asked.setup c.args.life.asked.catalogue) c.args.life.asked c.args.life.start Memory tt)

pub returns-in_err-workers-in-Ok : goal.returns-in_err-workers-in-Ok
returns-in_err-workers-in-Ok g c =
    let e = c.in_err-workers-in-Ok.field-0.0 in
    match_exit _ _ c.from_residual-in_err-workers-in-Ok.result e c.from_residual-in_err-workers-in-Ok.ensures.1 (refusal_tells (λ x y. g.S.PartialEq.eq x y) (rules_for (λ s z. g.S.Scheme.pick s z) (λ h. g.H.FlowHash.plain h) c.args.life.asked.setup c.args.life.asked.catalogue) c.args.life.asked c.args.life.start e c.in_err-workers-in-Ok.ensures.fault)

pub returns-in_err-sent-in-Ok : goal.returns-in_err-sent-in-Ok
returns-in_err-sent-in-Ok g c = match_exit _ _ c.from_residual-in_err-sent-in-Ok.result Memory c.from_residual-in_err-sent-in-Ok.ensures.1 (refusal_tells (λ x y. g.S.PartialEq.eq x y) (rules_for (λ s z. g.S.Scheme.pick s z) (λ h. g.H.FlowHash.plain h) c.args.life.asked.setup c.args.life.asked.catalogue) c.args.life.asked c.args.life.start Memory tt)

pub returns-in_err-progress-in-Ok : goal.returns-in_err-progress-in-Ok
returns-in_err-progress-in-Ok g c =
    let e = c.in_err-progress-in-Ok.field-0.0 in
    let plan = c.parts-progress.result.0 in
    let asked : Asked _ _ = asked_in plan.assignment in
    let told : LifeTells (λ x y. g.S.PartialEq.eq x y) (rules_for (λ s z. g.S.Scheme.pick s z) (λ h. g.H.FlowHash.plain h) c.args.life.asked.setup c.args.life.asked.catalogue) c.args.life.asked c.args.life.start e
    = subst (λ (v : LifeView _ _). LifeTells (λ x y. g.S.PartialEq.eq x y) (rules_for (λ s z. g.S.Scheme.pick s z) (λ h. g.H.FlowHash.plain h) v.asked.setup v.asked.catalogue) v.asked v.start e) (sym (sym c.open-life.ensures.life ∙ c.parts-progress.ensures.view))
    (end_tells (λ x y. g.S.PartialEq.eq x y) (rules_for (λ s z. g.S.Scheme.pick s z) (λ h. g.H.FlowHash.plain h) asked.setup asked.catalogue) asked c.parts-progress.result.1.at c.in-Ok.driven.at c.in-Ok.driven.journal _ c.end_driven.result e c.in_err-progress-in-Ok.was (IfOk-at_ok _ c.in-Ok.is c.drive-driven.ensures.driven) c.end_driven.ensures.judged) in
    match_exit _ _ c.from_residual-in_err-progress-in-Ok.result e c.from_residual-in_err-progress-in-Ok.ensures.1 told

pub returns-in-Ok : goal.returns-in-Ok
returns-in-Ok g c =
    let p = c.in_ok-progress-in-Ok.progress in
    subst (λ (v : LifeView _ _). IsLived (rules_for (λ s z. g.S.Scheme.pick s z) (λ h. g.H.FlowHash.plain h) v.asked.setup v.asked.catalogue) v.asked v.start (v.parts + length c.args.crew.hands.items) p.at p.journal p.tally.lost p.tally.shares) (sym (sym c.open-life.ensures.life ∙ c.parts-progress.ensures.view)) (record {
      ended = c.in_ok-progress-in-Ok.ensures.ended;
      parts_are = omega (arith, c.in_ok-progress-in-Ok.ensures.parts, IfOk-at_ok _ c.in-Ok.is c.drive-driven.ensures.parts, c.in_ok-workers-in-Ok.ensures.parts);
      counts = λ read. c.in_ok-progress-in-Ok.ensures.counts read;
      unmarked = λ paced. c.in_ok-progress-in-Ok.ensures.unmarked (IfOk-at_ok _ c.in-Ok.is (c.drive-driven.ensures.unmarked paced (c.parts-progress.ensures.begins.unmarked paced)));
    })

pub returns-in_err-gathered-in-Err : goal.returns-in_err-gathered-in-Err
returns-in_err-gathered-in-Err g c = match_exit _ _ c.from_residual-in_err-gathered-in-Err.result Memory c.from_residual-in_err-gathered-in-Err.ensures.1 (refusal_tells (λ x y. g.S.PartialEq.eq x y) (rules_for (λ s z. g.S.Scheme.pick s z) (λ h. g.H.FlowHash.plain h) c.args.life.asked.setup c.args.life.asked.catalogue) c.args.life.asked c.args.life.start Memory tt)

pub returns : goal.returns
returns g c =
    let e = c.in-Err.fault in
    let memory : e ≡ Memory = MatchResult-at_err _ (λ f. f ≡ Memory) e c.in-Err.is (c.drive-driven.ensures.published (c.open-life.ensures.level ∙ ap (λ (v : LifeView _ _). v.newest) (sym c.open-life.ensures.life ∙ c.parts-progress.ensures.view))) in
    refusal_tells (λ x y. g.S.PartialEq.eq x y) (rules_for (λ s z. g.S.Scheme.pick s z) (λ h. g.H.FlowHash.plain h) c.args.life.asked.setup c.args.life.asked.catalogue) c.args.life.asked c.args.life.start c.first_of.result (c.first_of.ensures.refusal c.end_all-ended.ensures (is_memory e memory))
