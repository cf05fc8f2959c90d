use Rattle.std.proofs.Common.{Bool, ◌+◌, ◌-◌, ◌∷◌, ℕ, subst, ◌∙◌, arith}
use Rattle.pcap_file.specs.declared.format.Head.{Head}
use Rattle.simulation.specs.PrivateSteps.{take_of}
use Rattle.event_trace.proofs.Choosing.{chosen_still}
use Rattle.simulation.specs.Plans.{planned}
use Rattle.simulation.specs.PrivateGoing.{Shortened}
use Rattle.simulation.specs.PrivateStages.{Reached, still_to_take}
use Rattle.simulation.proofs.Exits.{at_exit}
use Rattle.simulation.proofs.Reaching.{one_fewer, reached_turn, no_more_taken}
use Rattle.simulation.proofs.staging.Stage.take.Goals as goal

pub take_one-requires-clause-few : goal.take_one-requires-clause-few
take_one-requires-clause-few g c = let f = c.requires.few in (f.0, f.1, c.loop.invariant.few f.0 f.2)

pub returns-then-not-more-clause-few : goal.returns-then-not-more-clause-few
returns-then-not-more-clause-few g c = λ n h. c.in_ok-more.ensures.few n (c.loop.invariant.few n h)

pub returns-then-not-more-clause-reached : goal.returns-then-not-more-clause-reached
returns-then-not-more-clause-reached g c = λ choice text begun ss same r.
    let cluster = g.C.Core.cluster c.args.run.now.setup.now in
    let k = c.args.count - (c.loop.counter + 1) in
    let here = subst (λ (m : ℕ). Reached cluster choice (planned c.args.run.now.plan) text begun (take_of m ∷ ss) c.loop.self (g.I.Source.tape c.loop.input) (g.O.Outlet.tape c.loop.output)) (one_fewer c.args.count c.loop.counter (omega arith)) (c.loop.invariant.reached choice text begun ss same r) in
    subst (λ (b : Bool). Reached cluster choice (planned c.args.run.now.plan) text begun (still_to_take b k ss) c.take_one.new.self (g.I.Source.tape c.take_one.new.input) (g.O.Outlet.tape c.take_one.new.output)) c.if-not-more.true (c.in_ok-more.ensures.reached choice text begun ss k (chosen_still (λ s. g.P.Spread.choice s) same c.loop.invariant.spread) here)

pub returns-in_err-more-clause-short : goal.returns-in_err-more-clause-short
returns-in_err-more-clause-short g c = λ choice text begun ss same r.
    let cluster = g.C.Core.cluster c.args.run.now.setup.now in
    let k = c.args.count - (c.loop.counter + 1) in
    let here = subst (λ (m : ℕ). Reached cluster choice (planned c.args.run.now.plan) text begun (take_of m ∷ ss) c.loop.self (g.I.Source.tape c.loop.input) (g.O.Outlet.tape c.loop.output)) (one_fewer c.args.count c.loop.counter (omega arith)) (c.loop.invariant.reached choice text begun ss same r) in
    at_exit c.from_residual.result c.in_err-more.field-0.0 _ c.from_residual.ensures.1
    (subst (λ (h : Head). Shortened cluster choice (planned c.args.run.now.plan) h text (g.I.Source.tape c.take_one.new.input) begun (g.O.Outlet.tape c.take_one.new.output) c.in_err-more.field-0.0) c.loop.invariant.head (c.in_err-more.ensures.short choice text begun ss k (chosen_still (λ s. g.P.Spread.choice s) same c.loop.invariant.spread) here))

pub loop-preserved : goal.loop-preserved
loop-preserved g c = record {
  stands = c.in_ok-more.ensures.stands;
  spread = c.take_one.ensures.spread ∙ c.loop.invariant.spread;
  few = λ n h. c.in_ok-more.ensures.few n (c.loop.invariant.few n h);
  head = c.in_ok-more.ensures.head ∙ c.loop.invariant.head;
  reached = λ choice text begun ss same r.
      let cluster = g.C.Core.cluster c.args.run.now.setup.now in
      let k = c.args.count - (c.loop.counter + 1) in
      let here = subst (λ (m : ℕ). Reached cluster choice (planned c.args.run.now.plan) text begun (take_of m ∷ ss) c.loop.self (g.I.Source.tape c.loop.input) (g.O.Outlet.tape c.loop.output)) (one_fewer c.args.count c.loop.counter (omega arith)) (c.loop.invariant.reached choice text begun ss same r) in
      subst (λ (b : Bool). Reached cluster choice (planned c.args.run.now.plan) text begun (still_to_take b k ss) c.take_one.new.self (g.I.Source.tape c.take_one.new.input) (g.O.Outlet.tape c.take_one.new.output)) c.if-not-more.false (c.in_ok-more.ensures.reached choice text begun ss k (chosen_still (λ s. g.P.Spread.choice s) same c.loop.invariant.spread) here);
}

pub returns-clause-reached : goal.returns-clause-reached
returns-clause-reached g c = λ choice text begun ss same r.
    let cluster = g.C.Core.cluster c.args.run.now.setup.now in
    reached_turn cluster choice (planned c.args.run.now.plan) text begun (take_of (c.args.count - c.loop.counter)) ss c.loop.self _ _ (c.loop.invariant.reached choice text begun ss same r)
    (λ k seen h. h) (no_more_taken cluster choice (planned c.args.run.now.plan) (c.args.count - c.loop.counter) ss c.loop.self.play.trace (omega arith))
