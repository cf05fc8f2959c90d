use Rattle.std.proofs.Common.{◌+◌, ◌-◌, ◌∙◌, sym, ap, subst, arith, reverse}
use Rattle.event_trace.specs.Trace.{Trace}
use Rattle.event_trace.specs.Steps.{serve, serve_times}
use Rattle.event_trace.proofs.Coming.{times_grows}
use Rattle.event_trace.proofs.Repeats.{serve_next, serve_none}
use Rattle.simulation.specs.Plans.{planned}
use Rattle.simulation.specs.Intake.{Taking}
use Rattle.simulation.specs.Sent.{sent, WroteUntil}
use Rattle.simulation.specs.Simulated.{traffic_of}
use Rattle.simulation.specs.PrivateStages.{Sound}
use Rattle.simulation.proofs.Exits.{at_exit}
use Rattle.simulation.proofs.Staged.{cut_grown}
use Rattle.simulation.proofs.staging.Stage.serve_times.Goals as goal

pub loop-preserved : goal.loop-preserved
loop-preserved g c = record {
  stands = c.in_ok-serve.ensures.stands;
  spread = c.serve.ensures.spread ∙ c.loop.invariant.spread;
  kept = c.serve.ensures.kept ∙ c.loop.invariant.kept;
  intake = c.serve.ensures.intake ∙ c.loop.invariant.intake;
  rest = λ w j. ap (λ (d : Trace). serve_times w c.args.node c.args.worker (c.args.times - (c.loop.counter + 1)) d) (c.in_ok-serve.ensures.play w j)
      ∙ sym (serve_next w c.args.node c.args.worker c.args.times c.loop.counter c.loop.self.play.trace (omega arith)) ∙ c.loop.invariant.rest w j;
  sound = λ all begun s.
      subst (λ (t : Taking). Sound (g.C.Core.cluster c.args.run.now.setup.now) (planned c.args.run.now.plan) t.head.link all c.serve.new.self.play.trace c.serve.new.self.relay.waiting begun (g.O.Outlet.tape c.serve.new.output)) (sym c.serve.ensures.intake)
      (c.in_ok-serve.ensures.sound all begun (c.loop.invariant.sound all begun s));
}

pub returns-in_err-serve-clause-cut : goal.returns-in_err-serve-clause-cut
returns-in_err-serve-clause-cut g c = λ w all begun i s.
    let link = c.args.self.now.intake.head.link in
    let plan = planned c.args.run.now.plan in
    let c1 = c.loop.self.play.trace in
    let d : Trace = serve w c.args.node c.args.worker c1 in
    let m = c.args.times - (c.loop.counter + 1) in
    let is = sym (serve_next w c.args.node c.args.worker c.args.times c.loop.counter c1 (omega arith)) ∙ c.loop.invariant.rest w i in
    at_exit c.from_residual.result c.in_err-serve.field-0.0 _ c.from_residual.ensures.1
    (subst (λ (x : Trace). WroteUntil c.in_err-serve.field-0.0 begun (g.O.Outlet.tape c.serve.new.output) (sent (traffic_of plan link all) (reverse x.past))) is
    (cut_grown plan link all d (serve_times w c.args.node c.args.worker m d) c.in_err-serve.field-0.0 begun _ (times_grows w c.args.node c.args.worker m d)
    (subst (λ (t : Taking). WroteUntil c.in_err-serve.field-0.0 begun (g.O.Outlet.tape c.serve.new.output) (sent (traffic_of plan t.head.link all) (reverse d.past))) c.loop.invariant.intake
    (c.in_err-serve.ensures.cut w all begun i (c.loop.invariant.sound all begun s)))))

pub returns-clause-sound : goal.returns-clause-sound
returns-clause-sound g c = λ all begun s.
    subst (λ (t : Taking). Sound (g.C.Core.cluster c.args.run.now.setup.now) (planned c.args.run.now.plan) t.head.link all c.loop.self.play.trace c.loop.self.relay.waiting begun (g.O.Outlet.tape c.loop.output)) c.loop.invariant.intake
    (c.loop.invariant.sound all begun s)

pub returns-clause-play : goal.returns-clause-play
returns-clause-play g c = λ w j. sym (serve_none w c.args.node c.args.worker (c.args.times - c.loop.counter) c.loop.self.play.trace (omega arith)) ∙ c.loop.invariant.rest w j
