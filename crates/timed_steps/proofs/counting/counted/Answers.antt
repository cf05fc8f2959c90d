use Rattle.std.proofs.Common.{List, [], subst, sym, arith}
use Rattle.std.proofs.lemmas.List.{drop_all, append-nil}
use Rattle.event_trace.specs.declared.steps.ScenarioStep.{ScenarioStep}
use Rattle.timed_steps.specs.declared.TimedStep.{TimedStep}
use Rattle.timed_steps.specs.Timed.{counted_from, counted}
use Rattle.timed_steps.specs.Copies.{AreCopies}
use Rattle.timed_steps.proofs.counting.counted.Goals as goal

pub returns : goal.returns
returns c =
    let none = sym (drop_all c.loop-step.step-index c.args.steps.now (omega arith)) in
    subst (λ (l : List ScenarioStep). AreCopies l (counted c.args.times.now c.args.steps.now)) (append-nil c.loop-step.found.items)
    (c.loop-step.invariant.rest [] (subst (λ (ss : List TimedStep). AreCopies [] (counted_from c.first_of-first.result c.loop-step.left.now ss)) none tt))
