use Rattle.std.proofs.Common.{Bool, subst, ◌∙◌}
use Rattle.pcap_file.specs.declared.format.Head.{Head}
use Rattle.event_trace.proofs.Choosing.{chosen_still}
use Rattle.simulation.specs.Plans.{planned}
use Rattle.simulation.specs.PrivateGoing.{Shortened}
use Rattle.simulation.specs.PrivateStages.{Reached, still_until}
use Rattle.simulation.proofs.Exits.{at_exit}
use Rattle.simulation.proofs.staging.Stage.until.Goals as goal

pub take_early-requires-clause-few : goal.take_early-requires-clause-few
take_early-requires-clause-few g c = let f = c.requires.few in (f.0, f.1, c.loop.invariant.few f.0 f.2)

pub returns-in_err-take_early-clause-short : goal.returns-in_err-take_early-clause-short
returns-in_err-take_early-clause-short g c = λ choice text begun ss same r.
    at_exit c.from_residual.result c.in_err-take_early.field-0.0 _ c.from_residual.ensures.1
    (subst (λ (h : Head). Shortened (g.C.Core.cluster c.args.run.now.setup.now) choice (planned c.args.run.now.plan) h text (g.I.Source.tape c.take_early.new.input) begun (g.O.Outlet.tape c.take_early.new.output) c.in_err-take_early.field-0.0) c.loop.invariant.head
    (c.in_err-take_early.ensures.short choice text begun ss (chosen_still (λ s. g.P.Spread.choice s) same c.loop.invariant.spread) (c.loop.invariant.reached choice text begun ss same r)))

pub loop-preserved : goal.loop-preserved
loop-preserved g c = record {
  stands = c.in_ok-take_early.ensures.stands;
  spread = c.take_early.ensures.spread ∙ c.loop.invariant.spread;
  few = λ n h. c.in_ok-take_early.ensures.few n (c.loop.invariant.few n h);
  head = c.take_early.ensures.head ∙ c.loop.invariant.head;
  reached = λ choice text begun ss same r.
      subst (λ (b : Bool). Reached (g.C.Core.cluster c.args.run.now.setup.now) choice (planned c.args.run.now.plan) text begun (still_until b c.args.micros ss) c.take_early.new.self (g.I.Source.tape c.take_early.new.input) (g.O.Outlet.tape c.take_early.new.output)) c.if-branch.true
      (c.in_ok-take_early.ensures.reached choice text begun ss (chosen_still (λ s. g.P.Spread.choice s) same c.loop.invariant.spread) (c.loop.invariant.reached choice text begun ss same r));
}

pub returns-clause-few : goal.returns-clause-few
returns-clause-few g c = λ n h. c.in_ok-take_early.ensures.few n (c.loop.invariant.few n h)

pub returns-clause-reached : goal.returns-clause-reached
returns-clause-reached g c = λ choice text begun ss same r.
    subst (λ (b : Bool). Reached (g.C.Core.cluster c.args.run.now.setup.now) choice (planned c.args.run.now.plan) text begun (still_until b c.args.micros ss) c.take_early.new.self (g.I.Source.tape c.take_early.new.input) (g.O.Outlet.tape c.take_early.new.output)) c.if-branch.false
    (c.in_ok-take_early.ensures.reached choice text begun ss (chosen_still (λ s. g.P.Spread.choice s) same c.loop.invariant.spread) (c.loop.invariant.reached choice text begun ss same r))
