use Rattle.std.proofs.Common.{◌+◌, List, length, sym, ◌∙◌, ap, arith, refl, subst}
use Rattle.std.proofs.lemmas.List.{drop_all}
use Rattle.event_trace.specs.declared.steps.ScenarioStep.{ScenarioStep}
use Rattle.event_trace.specs.Trace.{Trace}
use Rattle.event_trace.specs.Room.{Counted}
use Rattle.event_trace.specs.Steps.{world_of, run}
use Rattle.event_trace.proofs.Bounds.{counted_after, run_next, run_none}
use Rattle.event_trace.proofs.play.Play.run.Goals as goal

pub loop-step-preserved : goal.loop-step-preserved
loop-step-preserved g c =
    let w = world_of (g.C.Core.cluster c.args.setup.now) (g.P.Spread.choice c.args.self.now.spread) c.args.packets.now in
    let e = c.in_ok-step.ensures.after w refl c.loop-step.invariant.choice refl in
    record {
      stands = c.in_ok-step.ensures.stands;
      told = λ before h. c.in_ok-step.ensures.told before (c.loop-step.invariant.told before h);
      choice = λ live flow nth. c.loop-step.invariant.choice live flow nth ∙ c.step.ensures.choice live flow nth;
      counted = subst (λ (d : Trace). Counted (length c.args.packets.now) (c.loop-step.step-index + 1) d) (sym e) (counted_after w c.loop-step.step-index _ c.loop-step.self.trace c.loop-step.invariant.counted);
      rest = run_next w c.args.steps.now c.loop-step.step-index _ c.loop-step.self.trace _ (omega arith) c.step-item.is e ∙ c.loop-step.invariant.rest;
    }

pub returns-clause-run : goal.returns-clause-run
returns-clause-run g c =
    let w = world_of (g.C.Core.cluster c.args.setup.now) (g.P.Spread.choice c.args.self.now.spread) c.args.packets.now in
    sym (run_none w c.loop-step.self.trace) ∙ ap (λ (l : List ScenarioStep). run w l c.loop-step.self.trace) (sym (drop_all c.loop-step.step-index c.args.steps.now (omega arith))) ∙ c.loop-step.invariant.rest
