use Rattle.std.proofs.Common.{◌≡◌, drop}
use Rattle.spreader.specs.Choices.{Choice}
use Rattle.event_trace.specs.Steps.{SameChoice}
use Rattle.event_trace.specs.Room.{Counted}
use Rattle.simulation.specs.Plans.{planned}
use Rattle.pcap_file.specs.Device.{Tape}
use Rattle.simulation.specs.PrivateStages.{Reached}
use Rattle.simulation.proofs.staging.Stage.steps.Given as goal

abbrev pub invariant-loop-step : goal.invariant-loop-step
invariant-loop-step g l = record {
  stands : g.C.Core.stands l.run.setup.now l.self.play.trace.past l.core;
  same : SameChoice (g.P.Spread.choice l.initial.self.play.spread) (g.P.Spread.choice l.self.play.spread);
  counted : Counted l.self.intake.given l.step-index l.self.play.trace;
  head : l.self.intake.head ≡ l.initial.self.intake.head;
  reached : (choice : Choice) (text begun : Tape) → SameChoice choice (g.P.Spread.choice l.initial.self.play.spread) →
      Reached (g.C.Core.cluster l.run.setup.now) choice (planned l.run.plan) text begun l.run.plan.steps.now l.initial.self (g.I.Source.tape l.initial.input) (g.O.Outlet.tape l.initial.output) →
      Reached (g.C.Core.cluster l.run.setup.now) choice (planned l.run.plan) text begun (drop l.step-index l.run.plan.steps.now) l.self (g.I.Source.tape l.input) (g.O.Outlet.tape l.output);
}
