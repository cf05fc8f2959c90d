use Rattle.std.proofs.Common.{◌≡◌, ◌-◌, ◌∷◌, ℕ, List}
use Rattle.timed_steps.specs.declared.TimedStep.{TimedStep}
use Rattle.spreader.specs.Choices.{Choice}
use Rattle.event_trace.specs.Steps.{SameChoice}
use Rattle.event_trace.specs.Room.{Counted}
use Rattle.simulation.specs.PrivateSteps.{until_of}
use Rattle.simulation.specs.Plans.{planned}
use Rattle.pcap_file.specs.Device.{Tape}
use Rattle.pcap_file.specs.Format.{max_records}
use Rattle.simulation.specs.PrivateStages.{Reached}
use Rattle.simulation.proofs.staging.Stage.until.Given as goal

abbrev pub invariant-loop : goal.invariant-loop
invariant-loop g l = record {
  stands : g.C.Core.stands l.run.setup.now l.self.play.trace.past l.core;
  spread : l.self.play.spread ≡ l.initial.self.play.spread;
  few : (n : ℕ) → Counted l.initial.self.intake.given n l.initial.self.play.trace → Counted l.self.intake.given n l.self.play.trace;
  head : l.self.intake.head ≡ l.initial.self.intake.head;
  reached : (choice : Choice) (text begun : Tape) (ss : List TimedStep) → SameChoice choice (g.P.Spread.choice l.initial.self.play.spread) →
      Reached (g.C.Core.cluster l.run.setup.now) choice (planned l.run.plan) text begun (until_of l.micros ∷ ss) l.initial.self (g.I.Source.tape l.initial.input) (g.O.Outlet.tape l.initial.output) →
      Reached (g.C.Core.cluster l.run.setup.now) choice (planned l.run.plan) text begun (until_of l.micros ∷ ss) l.self (g.I.Source.tape l.input) (g.O.Outlet.tape l.output);
}

abbrev pub decreases-loop : goal.decreases-loop
decreases-loop g l = max_records - l.self.intake.given
