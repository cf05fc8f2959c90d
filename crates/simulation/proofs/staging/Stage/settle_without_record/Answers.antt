use Rattle.std.proofs.Common.{refl, ap, subst, IfErr, reverse}
use Rattle.event_trace.specs.Trace.{Trace}
use Rattle.event_trace.specs.Steps.{drain_from}
use Rattle.simulation.specs.Plans.{planned}
use Rattle.simulation.specs.Sent.{sent, WroteUntil}
use Rattle.simulation.specs.Simulated.{traffic_of}
use Rattle.simulation.proofs.Exits.{where_done}
use Rattle.simulation.proofs.Reaching.{sound_same}
use Rattle.simulation.proofs.Staged.{drained}
use Rattle.simulation.proofs.staging.Stage.settle_without_record.Goals as goal

pub returns-in-Drain-clause-play : goal.returns-in-Drain-clause-play
returns-in-Drain-clause-play g c = where_done c.drain.result _ (λ got. λ w i q.
    drained w (g.C.Core.cluster c.args.run.now.setup.now) c.in-Drain.node c.workers.result c.args.step.now c.args.self.now.play.trace c.release.new.self.trace c.drain.new.self.play.trace
    i c.workers.ensures c.in-Drain.is c.release.ensures.trace (got _ c.drain.ensures.play w i))

pub returns-in-Drain-clause-cut : goal.returns-in-Drain-clause-cut
returns-in-Drain-clause-cut g c = λ q w all begun i s.
    let k = g.C.Core.cluster c.args.run.now.setup.now in
    let plan = planned c.args.run.now.plan in
    let link = c.args.self.now.intake.head.link in
    let c0 = c.args.self.now.play.trace in
    let r = c.release.new.self.trace in
    let qs = c.args.self.now.relay.waiting in
    subst (λ (x : Trace). IfErr c.drain.result (λ fault. WroteUntil fault begun (g.O.Outlet.tape c.drain.new.output) (sent (traffic_of plan link all) (reverse x.past))))
    (drained w k c.in-Drain.node c.workers.result c.args.step.now c0 r (drain_from w c.in-Drain.node 0 c.workers.result r) i c.workers.ensures c.in-Drain.is c.release.ensures.trace refl)
    (c.drain.ensures.cut w all begun i (sound_same k plan link all c0 r qs qs begun _ (ap (λ (x : Trace). x.past) c.release.ensures.trace) refl s))
