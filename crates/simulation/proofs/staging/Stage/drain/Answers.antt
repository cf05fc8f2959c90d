use Rattle.std.proofs.Common.{ℕ, ◌+◌, ◌-◌, ◌∙◌, sym, ap, subst, arith, reverse}
use Rattle.cluster_core.specs.Cluster.{Cluster, waiting_on}
use Rattle.event_trace.specs.Trace.{Trace}
use Rattle.event_trace.specs.Steps.{serve_times, drain_from}
use Rattle.event_trace.proofs.Coming.{drain_grows}
use Rattle.event_trace.proofs.Repeats.{drain_next, drain_none}
use Rattle.simulation.specs.Plans.{planned}
use Rattle.simulation.specs.Intake.{Taking}
use Rattle.simulation.specs.Sent.{sent, WroteUntil}
use Rattle.simulation.specs.Simulated.{traffic_of}
use Rattle.simulation.specs.PrivateStages.{Sound}
use Rattle.simulation.proofs.Exits.{at_exit}
use Rattle.simulation.proofs.Staged.{cut_grown}
use Rattle.simulation.proofs.staging.Stage.drain.Goals as goal

pub loop-worker-preserved : goal.loop-worker-preserved
loop-worker-preserved g c = record {
  stands = c.in_ok-serve_times.ensures.stands;
  spread = c.serve_times.ensures.spread ∙ c.loop-worker.invariant.spread;
  kept = c.serve_times.ensures.kept ∙ c.loop-worker.invariant.kept;
  intake = c.serve_times.ensures.intake ∙ c.loop-worker.invariant.intake;
  rest = λ w j. ap (λ (d : Trace). drain_from w c.args.node (c.loop-worker.worker + 1) (c.args.workers - (c.loop-worker.worker + 1)) d) (c.in_ok-serve_times.ensures.play w j
      ∙ ap (λ (m : ℕ). serve_times w c.args.node c.loop-worker.worker m c.loop-worker.self.play.trace) (c.waiting-times.ensures c.loop-worker.self.play.trace.past c.loop-worker.invariant.stands ∙ ap (λ (k : Cluster). waiting_on k c.args.node c.loop-worker.worker c.loop-worker.self.play.trace.past) (sym j)))
      ∙ sym (drain_next w c.args.node c.args.workers c.loop-worker.worker c.loop-worker.self.play.trace (omega arith)) ∙ c.loop-worker.invariant.rest w j;
  sound = λ all begun s.
      subst (λ (t : Taking). Sound (g.C.Core.cluster c.args.run.now.setup.now) (planned c.args.run.now.plan) t.head.link all c.serve_times.new.self.play.trace c.serve_times.new.self.relay.waiting begun (g.O.Outlet.tape c.serve_times.new.output)) (sym c.serve_times.ensures.intake)
      (c.in_ok-serve_times.ensures.sound all begun (c.loop-worker.invariant.sound all begun s));
}

pub returns-in_err-serve_times-clause-cut : goal.returns-in_err-serve_times-clause-cut
returns-in_err-serve_times-clause-cut g c = λ w all begun i s.
    let link = c.args.self.now.intake.head.link in
    let plan = planned c.args.run.now.plan in
    let c1 = c.loop-worker.self.play.trace in
    let u = c.loop-worker.worker in
    let d : Trace = serve_times w c.args.node u c.waiting-times.result c1 in
    let m = c.args.workers - (u + 1) in
    let waits = c.waiting-times.ensures c1.past c.loop-worker.invariant.stands ∙ ap (λ (k : Cluster). waiting_on k c.args.node u c1.past) (sym i) in
    let is = ap (λ (t : ℕ). drain_from w c.args.node (u + 1) m (serve_times w c.args.node u t c1)) waits ∙ sym (drain_next w c.args.node c.args.workers u c1 (omega arith)) ∙ c.loop-worker.invariant.rest w i in
    at_exit c.from_residual.result c.in_err-serve_times.field-0.0 _ c.from_residual.ensures.1
    (subst (λ (x : Trace). WroteUntil c.in_err-serve_times.field-0.0 begun (g.O.Outlet.tape c.serve_times.new.output) (sent (traffic_of plan link all) (reverse x.past))) is
    (cut_grown plan link all d (drain_from w c.args.node (u + 1) m d) c.in_err-serve_times.field-0.0 begun _ (drain_grows w c.args.node (u + 1) m d)
    (subst (λ (t : Taking). WroteUntil c.in_err-serve_times.field-0.0 begun (g.O.Outlet.tape c.serve_times.new.output) (sent (traffic_of plan t.head.link all) (reverse d.past))) c.loop-worker.invariant.intake
    (c.in_err-serve_times.ensures.cut w all begun i (c.loop-worker.invariant.sound all begun s)))))

pub returns-clause-sound : goal.returns-clause-sound
returns-clause-sound g c = λ all begun s.
    subst (λ (t : Taking). Sound (g.C.Core.cluster c.args.run.now.setup.now) (planned c.args.run.now.plan) t.head.link all c.loop-worker.self.play.trace c.loop-worker.self.relay.waiting begun (g.O.Outlet.tape c.loop-worker.output)) c.loop-worker.invariant.intake
    (c.loop-worker.invariant.sound all begun s)

pub returns-clause-play : goal.returns-clause-play
returns-clause-play g c = λ w j. sym (drain_none w c.args.node c.loop-worker.worker (c.args.workers - c.loop-worker.worker) c.loop-worker.self.play.trace (omega arith)) ∙ c.loop-worker.invariant.rest w j
