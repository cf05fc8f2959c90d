use Rattle.std.proofs.Common.{◌∷◌, sym, subst}
use Rattle.timed_steps.specs.declared.TimedStep.{TimedStep}
use Rattle.event_trace.proofs.Choosing.{same_choice}
use Rattle.simulation.specs.Plans.{planned}
use Rattle.simulation.specs.PrivateStages.{Reached}
use Rattle.simulation.proofs.staging.Stage.step.Goals as goal

pub returns-in-Counted-clause-short : goal.returns-in-Counted-clause-short
returns-in-Counted-clause-short g c = λ choice text begun ss same r.
    c.step_by_count.ensures.short choice text begun ss same
    (subst (λ (s : TimedStep). Reached (g.C.Core.cluster c.args.run.now.setup.now) choice (planned c.args.run.now.plan) text begun (s ∷ ss) c.args.self.now (g.I.Source.tape c.args.input.now) (g.O.Outlet.tape c.args.output.now)) c.in-Counted.is r)

pub returns-in-Until-clause-short : goal.returns-in-Until-clause-short
returns-in-Until-clause-short g c = λ choice text begun ss same r.
    c.until.ensures.short choice text begun ss same
    (subst (λ (s : TimedStep). Reached (g.C.Core.cluster c.args.run.now.setup.now) choice (planned c.args.run.now.plan) text begun (s ∷ ss) c.args.self.now (g.I.Source.tape c.args.input.now) (g.O.Outlet.tape c.args.output.now)) c.in-Until.is r)

pub returns-in-Until-clause-choice : goal.returns-in-Until-clause-choice
returns-in-Until-clause-choice g c = same_choice (λ s. g.P.Spread.choice s) (sym c.until.ensures.spread)
