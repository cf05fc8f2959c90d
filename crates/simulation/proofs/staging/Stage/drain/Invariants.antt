use Rattle.std.proofs.Common.{◌≡◌, ◌-◌, List}
use Rattle.pcap_file.specs.Device.{Tape}
use Rattle.pcap_file.specs.Format.{Record}
use Rattle.event_trace.specs.Steps.{World, drain_from}
use Rattle.simulation.specs.Plans.{planned}
use Rattle.simulation.specs.PrivateStages.{Sound}
use Rattle.simulation.proofs.staging.Stage.drain.Given as goal

abbrev pub invariant-loop-worker : goal.invariant-loop-worker
invariant-loop-worker g l = record {
  stands : g.C.Core.stands l.run.setup.now l.self.play.trace.past l.core;
  spread : l.self.play.spread ≡ l.initial.self.play.spread;
  kept : l.self.kept ≡ l.initial.self.kept;
  intake : l.self.intake ≡ l.initial.self.intake;
  rest : (w : World) → w.cluster ≡ g.C.Core.cluster l.run.setup.now → drain_from w l.node l.worker (l.workers - l.worker) l.self.play.trace ≡ drain_from w l.node 0 l.workers l.initial.self.play.trace;
  sound : (all : List Record) (begun : Tape) →
      Sound (g.C.Core.cluster l.run.setup.now) (planned l.run.plan) l.initial.self.intake.head.link all l.initial.self.play.trace l.initial.self.relay.waiting begun (g.O.Outlet.tape l.initial.output) →
      Sound (g.C.Core.cluster l.run.setup.now) (planned l.run.plan) l.self.intake.head.link all l.self.play.trace l.self.relay.waiting begun (g.O.Outlet.tape l.output);
}
