use Rattle.std.proofs.Common.{◌≡◌, ◌-◌, ◌∷◌, ℕ, List}
use Rattle.timed_steps.specs.declared.TimedStep.{TimedStep}
use Rattle.spreader.specs.Choices.{Choice}
use Rattle.cluster_core.specs.Cluster.{Cluster}
use Rattle.event_trace.specs.Room.{Counted}
use Rattle.simulation.specs.PrivateSteps.{lose_of}
use Rattle.simulation.specs.Plans.{Planned}
use Rattle.pcap_file.specs.Device.{Tape}
use Rattle.simulation.specs.PrivateStages.{Reached}
use Rattle.simulation.proofs.staging.Stage.lose.Given as goal

abbrev pub invariant-loop : goal.invariant-loop
invariant-loop g l = record {
  past : l.self.play.trace.past ≡ l.initial.self.play.trace.past;
  spread : l.self.play.spread ≡ l.initial.self.play.spread;
  few : (n : ℕ) → Counted l.initial.self.intake.given n l.initial.self.play.trace → Counted l.self.intake.given n l.self.play.trace;
  head : l.self.intake.head ≡ l.initial.self.intake.head;
  reached : (cluster : Cluster) (choice : Choice) (plan : Planned) (text begun out : Tape) (ss : List TimedStep) →
      Reached cluster choice plan text begun (lose_of l.count ∷ ss) l.initial.self (g.I.Source.tape l.initial.input) out →
      Reached cluster choice plan text begun (lose_of (l.count - l.counter) ∷ ss) l.self (g.I.Source.tape l.input) out;
}
