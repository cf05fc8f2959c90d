use Rattle.std.proofs.Common.{◌≡◌, ◌-◌, List}
use Rattle.pcap_file.specs.Device.{Tape}
use Rattle.pcap_file.specs.Format.{Record}
use Rattle.event_trace.specs.Steps.{World, serve_times}
use Rattle.simulation.specs.Plans.{planned}
use Rattle.simulation.specs.PrivateStages.{Sound}
use Rattle.simulation.proofs.staging.Stage.serve_times.Given as goal

abbrev pub invariant-loop : goal.invariant-loop
invariant-loop g l = record {
  stands : g.C.Core.stands l.run.setup.now l.self.play.trace.past l.core;
  spread : l.self.play.spread ≡ l.initial.self.play.spread;
  kept : l.self.kept ≡ l.initial.self.kept;
  intake : l.self.intake ≡ l.initial.self.intake;
  rest : (w : World) → w.cluster ≡ g.C.Core.cluster l.run.setup.now → serve_times w l.node l.worker (l.times - l.counter) l.self.play.trace ≡ serve_times w l.node l.worker l.times l.initial.self.play.trace;
  sound : (all : List Record) (begun : Tape) →
      Sound (g.C.Core.cluster l.run.setup.now) (planned l.run.plan) l.initial.self.intake.head.link all l.initial.self.play.trace l.initial.self.relay.waiting begun (g.O.Outlet.tape l.initial.output) →
      Sound (g.C.Core.cluster l.run.setup.now) (planned l.run.plan) l.self.intake.head.link all l.self.play.trace l.self.relay.waiting begun (g.O.Outlet.tape l.output);
}
