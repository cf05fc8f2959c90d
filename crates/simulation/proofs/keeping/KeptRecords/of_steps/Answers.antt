use Rattle.std.proofs.Common.{take, None, ap, arith, ◌∙◌, ◌+◌, ℕ}
use Rattle.simulation.specs.PrivateKeeping.{is_at, kept_at, times_in, times_named}
use Rattle.simulation.specs.declared.keeping.KeptRecords.{KeptRecords}
use Rattle.simulation.proofs.Named.{times_kept, times_few, counted_again, counted_other, not_some}
use Rattle.simulation.proofs.keeping.KeptRecords.of_steps.Goals.{in-Some+in_ok-set, in_default}
use Rattle.simulation.proofs.keeping.KeptRecords.of_steps.Goals as goal

pub overflow_add-times : goal.overflow_add-times
overflow_add-times c =
    let so_far = take c.loop-step.step-index c.args.steps.now in
    let count = c.times-times.ensures ∙ ap times_in (c.loop-step.invariant c.in-Some.place) ∙ times_kept (times_named c.in-Some.place so_far) None in
    omega (arith, count, times_few c.in-Some.place c.args.steps.now c.loop-step.step-index)

pub loop-step-preserved : goal.loop-step-preserved
loop-step-preserved c = elim c.match-named.branch [
  | in-Some+in_ok-set w ↦ λ q. ap (λ (k : KeptRecords). kept_at k q) w.kept-is
      ∙ counted_again c.args.steps.now c.loop-step.step-index c.step-item.result w.in-Some.place (w.times-times.result + 1) c.loop-step.kept w.set.new.self c.loop-step-test.true c.step-item.is (λ p. c.named.ensures p ∙ ap (is_at p) w.in-Some.is)
      c.loop-step.invariant (ap (λ (n : ℕ). n + 1) w.times-times.ensures) w.in_ok-set.ensures q
  | in_default w ↦ λ q. ap (λ (k : KeptRecords). kept_at k q) w.kept-is
      ∙ counted_other c.args.steps.now c.loop-step.step-index c.step-item.result c.loop-step.kept c.loop-step-test.true c.step-item.is (λ p. c.named.ensures p ∙ ap (is_at p) (not_some c.named.result w.in_default.not-Some))
      c.loop-step.invariant q
]
