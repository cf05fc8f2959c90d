use Rattle.std.proofs.Common.{◌≡◌, ◌<◌, ◌+◌, ℕ, length, sym, subst, ◌∙◌, arith}
use Rattle.std.specs.Prelude.{MatchResult}
use Rattle.cluster_core.specs.Setups.{rules_for}
use Rattle.thread_roles.specs.Assigned.{asked_in}
use Rattle.thread_roles.specs.Going.{LifeView, IsLived}
use Rattle.thread_roles.specs.declared.fault.RunFault.TheVariants.{Memory}
use Rattle.node_life.specs.Told.{LifeTells}
use Rattle.node_life.proofs.Telling.{match_exit, refusal_tells}
use Rattle.node_life.proofs.living.live.Goals as goal

pub post_all-requires : goal.post_all-requires
post_all-requires g c = λ k d h. (c.in_ok-board.ensures.watchers.1 k d h).0

pub lay-requires : goal.lay-requires
lay-requires g c =
    let enough : c.parts-progress.result.0.assignment.setup.now.workers < c.parts-progress.result.1.tally.shares.parts = subst (λ (v : LifeView _ _). v.asked.setup.workers < v.parts) c.parts-progress.ensures.view c.requires in
    omega (arith, enough, c.workers-workers.ensures.workers, c.in_ok-board.ensures, c.in_ok-posts.ensures.posts)

pub returns-in_err-board : goal.returns-in_err-board
returns-in_err-board g c = match_exit _ _ c.from_residual.result Memory c.from_residual.ensures.1 (refusal_tells (λ x y. g.S.PartialEq.eq x y) (rules_for (λ s z. g.S.Scheme.pick s z) (λ h. g.H.FlowHash.plain h) c.args.life.asked.setup c.args.life.asked.catalogue) c.args.life.asked c.args.life.start Memory tt)

pub returns-in_err-stage : goal.returns-in_err-stage
returns-in_err-stage g c =
    let e = c.in_err-stage.field-0.0 in
    match_exit _ _ c.from_residual-in_err-stage.result e c.from_residual-in_err-stage.ensures.1 (refusal_tells (λ x y. g.S.PartialEq.eq x y) (rules_for (λ s z. g.S.Scheme.pick s z) (λ h. g.H.FlowHash.plain h) c.args.life.asked.setup c.args.life.asked.catalogue) c.args.life.asked c.args.life.start e c.in_err-stage.ensures)

pub returns-in_err-posts : goal.returns-in_err-posts
returns-in_err-posts g c =
    let e = c.in_err-posts.field-0.0 in
    match_exit _ _ c.from_residual-in_err-posts.result e c.from_residual-in_err-posts.ensures.1 (refusal_tells (λ x y. g.S.PartialEq.eq x y) (rules_for (λ s z. g.S.Scheme.pick s z) (λ h. g.H.FlowHash.plain h) c.args.life.asked.setup c.args.life.asked.catalogue) c.args.life.asked c.args.life.start e c.in_err-posts.ensures.fault)

pub returns-in_err-laid : goal.returns-in_err-laid
returns-in_err-laid g c = match_exit _ _ c.from_residual-in_err-laid.result Memory c.from_residual-in_err-laid.ensures.1 (refusal_tells (λ x y. g.S.PartialEq.eq x y) (rules_for (λ s z. g.S.Scheme.pick s z) (λ h. g.H.FlowHash.plain h) c.args.life.asked.setup c.args.life.asked.catalogue) c.args.life.asked c.args.life.start Memory tt)

pub returns : goal.returns
returns g c =
    let plan = c.parts-progress.result.0 in
    let p = c.parts-progress.result.1 in
    let asked = asked_in plan.assignment in
    let all : c.lay.new.tally.shares.parts + length c.in_ok-laid.laid.outfits.items ≡ p.tally.shares.parts = c.in_ok-laid.ensures.parts in
    subst (λ (v : LifeView _ _). MatchResult c.run_life.result (λ r. IsLived (rules_for (λ s z. g.S.Scheme.pick s z) (λ h. g.H.FlowHash.plain h) v.asked.setup v.asked.catalogue) v.asked v.start v.parts r.progress.at r.progress.journal r.progress.tally.lost r.progress.tally.shares) (λ f. LifeTells (λ x y. g.S.PartialEq.eq x y) (rules_for (λ s z. g.S.Scheme.pick s z) (λ h. g.H.FlowHash.plain h) v.asked.setup v.asked.catalogue) v.asked v.start f)) (sym c.parts-progress.ensures.view)
    (subst (λ (n : ℕ). MatchResult c.run_life.result (λ r. IsLived (rules_for (λ s z. g.S.Scheme.pick s z) (λ h. g.H.FlowHash.plain h) asked.setup asked.catalogue) asked p.at n r.progress.at r.progress.journal r.progress.tally.lost r.progress.tally.shares) (λ f. LifeTells (λ x y. g.S.PartialEq.eq x y) (rules_for (λ s z. g.S.Scheme.pick s z) (λ h. g.H.FlowHash.plain h) asked.setup asked.catalogue) asked p.at f)) all
    (subst (λ (v : LifeView _ _). MatchResult c.run_life.result (λ r. IsLived (rules_for (λ s z. g.S.Scheme.pick s z) (λ h. g.H.FlowHash.plain h) v.asked.setup v.asked.catalogue) v.asked v.start (v.parts + length c.in_ok-laid.laid.outfits.items) r.progress.at r.progress.journal r.progress.tally.lost r.progress.tally.shares) (λ f. LifeTells (λ x y. g.S.PartialEq.eq x y) (rules_for (λ s z. g.S.Scheme.pick s z) (λ h. g.H.FlowHash.plain h) v.asked.setup v.asked.catalogue) v.asked v.start f)) (c.new-life.ensures ∙ c.new-2.ensures) c.run_life.ensures))
