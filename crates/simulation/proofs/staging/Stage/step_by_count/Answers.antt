use Rattle.std.proofs.Common.{◌∷◌, sym, subst}
use Rattle.event_trace.specs.declared.steps.ScenarioStep.{ScenarioStep}
use Rattle.event_trace.proofs.Choosing.{same_choice}
use Rattle.simulation.specs.Plans.{planned}
use Rattle.simulation.specs.PrivateSteps.{by_count}
use Rattle.simulation.specs.PrivateStages.{Reached}
use Rattle.simulation.proofs.staging.Stage.step_by_count.Goals as goal

pub returns-in-Take-clause-short : goal.returns-in-Take-clause-short
returns-in-Take-clause-short g c = λ choice text begun ss same r.
    c.take.ensures.short choice text begun ss same
    (subst (λ (s : ScenarioStep). Reached (g.C.Core.cluster c.args.run.now.setup.now) choice (planned c.args.run.now.plan) text begun (by_count s ∷ ss) c.args.self.now (g.I.Source.tape c.args.input.now) (g.O.Outlet.tape c.args.output.now)) c.in-Take.is r)

pub returns-in-Lose-clause-short : goal.returns-in-Lose-clause-short
returns-in-Lose-clause-short g c = λ choice text begun ss same r.
    c.lose.ensures.short (g.C.Core.cluster c.args.run.now.setup.now) choice (planned c.args.run.now.plan) text begun (g.O.Outlet.tape c.args.output.now) ss
    (subst (λ (s : ScenarioStep). Reached (g.C.Core.cluster c.args.run.now.setup.now) choice (planned c.args.run.now.plan) text begun (by_count s ∷ ss) c.args.self.now (g.I.Source.tape c.args.input.now) (g.O.Outlet.tape c.args.output.now)) c.in-Lose.is r)

pub returns-in-Again-clause-short : goal.returns-in-Again-clause-short
returns-in-Again-clause-short g c = λ choice text begun ss same r.
    c.again.ensures.short choice text begun _ ss same
    (subst (λ (s : ScenarioStep). Reached (g.C.Core.cluster c.args.run.now.setup.now) choice (planned c.args.run.now.plan) text begun (by_count s ∷ ss) c.args.self.now (g.I.Source.tape c.args.input.now) (g.O.Outlet.tape c.args.output.now)) c.in-Again.is r)

pub returns-in-Take-clause-choice : goal.returns-in-Take-clause-choice
returns-in-Take-clause-choice g c = same_choice (λ s. g.P.Spread.choice s) (sym c.take.ensures.spread)

pub returns-in-Lose-clause-choice : goal.returns-in-Lose-clause-choice
returns-in-Lose-clause-choice g c = same_choice (λ s. g.P.Spread.choice s) (sym c.lose.ensures.spread)

pub returns-in-Again-clause-choice : goal.returns-in-Again-clause-choice
returns-in-Again-clause-choice g c = same_choice (λ s. g.P.Spread.choice s) (sym c.again.ensures.spread)

pub returns-in_default : goal.returns-in_default
returns-in_default g c = record {
  stands = c.step_without_record.ensures.stands;
  choice = c.step_without_record.ensures.choice;
  few = c.step_without_record.ensures.few;
  head = c.step_without_record.ensures.head;
  reached = λ choice text begun ss same r. c.step_without_record.ensures.reached choice text begun _ ss r;
  short = λ choice text begun ss same r. c.step_without_record.ensures.short choice text begun _ ss r;
}
