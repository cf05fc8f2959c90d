use Rattle.std.proofs.Common.{◌≡◌, ◌∙◌, ap, length, ℕ, arith}
use Rattle.cluster_node.proofs.Clearing.{cleared_first, first_all, clear_step}
use Rattle.cluster_node.proofs.steps.clear_all.Goals as goal
use Rattle.std.proofs.lemmas.Grind.{common_steps}

pub loop-at-preserved : goal.loop-at-preserved
loop-at-preserved g c = clear_step c.loop-at.workers.items c.args.workers.now.items c.loop-at.at c.loop-at.lost c.restart.result c.index_mut-one.result.now c.restart.new.self
    (omega (arith, c.len-at-end.ensures, c.loop-at-test.true)) c.loop-at.invariant.0 c.loop-at.invariant.1 c.index_mut-one.ensures.value c.restart.ensures.lost c.restart.ensures.after

pub returns-clause-cleared : goal.returns-clause-cleared
returns-clause-cleared g c =
    let e : c.loop-at.at ≡ length c.args.workers.now.items = omega (arith, c.len-at-end.ensures, c.loop-at-test.false, c.loop-at.auto.at-end) in
    c.loop-at.invariant.0 ∙ ap (λ (n : ℕ). cleared_first n c.args.workers.now.items) e ∙ first_all c.args.workers.now.items

pub loop-at-init : goal.loop-at-init
loop-at-init g c = grind (arith, common_steps)

pub returns-clause-lost : goal.returns-clause-lost
returns-clause-lost g c = grind (arith, common_steps)
