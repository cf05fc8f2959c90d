use Rattle.std.proofs.Common.{◌≡◌, List, ap, ◌∙◌, arith}
use Rattle.std.specs.List.{sum_by}
use Rattle.std.proofs.lemmas.List.{take_all}
use Rattle.timed_steps.specs.declared.TimedStep.{TimedStep}
use Rattle.run_scenario.specs.PrivateFirsts.{may_read}
use Rattle.run_scenario.proofs.Prefixes.{kept_whole}
use Rattle.run_scenario.proofs.orders.kept_for.Goals as goal

pub returns : goal.returns
returns c =
    let steps = c.args.steps.now in
    let total : c.loop-step.total ≡ sum_by may_read steps = c.loop-step.invariant.total ∙ ap (λ (ss : List TimedStep). sum_by may_read ss) (take_all c.loop-step.step-index steps (omega arith)) in
    total ∙ kept_whole steps (omega (arith, total, c.loop-step.invariant.fits))
