use Rattle.std.proofs.Common.{◌+◌, List, length, sym, ◌∙◌, ap, arith, refl, subst}
use Rattle.std.proofs.lemmas.List.{drop_all}
use Rattle.event_trace.specs.declared.steps.ScenarioStep.{ScenarioStep}
use Rattle.event_trace.specs.Trace.{Trace}
use Rattle.event_trace.specs.Room.{Counted}
use Rattle.event_trace.specs.Steps.{world_of, run}
use Rattle.event_trace.proofs.Bounds.{counted_after, run_next, run_none}
use Rattle.driver_commands.specs.Noting.{noting}
use Rattle.driver_commands.proofs.drivers.tell_steps.Goals as goal

pub tell_next-requires-clause-room : goal.tell_next-requires-clause-room
tell_next-requires-clause-room g c =
    let old = c.loop-step.invariant.counted in
    record { read = old.read; nth = omega (arith, old.nth); unrouted = omega (arith, old.unrouted); lost = old.lost; skipped = omega (arith, old.skipped) }

pub loop-step-preserved : goal.loop-step-preserved
loop-step-preserved g c =
    let w = world_of noting (g.P.Spread.choice c.args.play.now.spread) c.args.packets.now in
    let e = c.in_ok-tell_next.ensures.after w refl c.loop-step.invariant.choice refl in
    record {
      choice = λ live flow nth. c.loop-step.invariant.choice live flow nth ∙ c.tell_next.ensures.choice live flow nth;
      counted = subst (λ (d : Trace). Counted (length c.args.packets.now) (c.loop-step.step-index + 1) d) (sym e) (counted_after w c.loop-step.step-index _ c.loop-step.play.trace c.loop-step.invariant.counted);
      told = λ nodes before. c.in_ok-tell_next.ensures.told nodes (c.loop-step.invariant.told nodes before);
      rest = run_next w c.args.steps.now c.loop-step.step-index _ c.loop-step.play.trace _ (omega arith) c.step-item.is e ∙ c.loop-step.invariant.rest;
    }

pub returns-clause-run : goal.returns-clause-run
returns-clause-run g c =
    let w = world_of noting (g.P.Spread.choice c.args.play.now.spread) c.args.packets.now in
    sym (run_none w c.loop-step.play.trace) ∙ ap (λ (l : List ScenarioStep). run w l c.loop-step.play.trace) (sym (drop_all c.loop-step.step-index c.args.steps.now (omega arith))) ∙ c.loop-step.invariant.rest
