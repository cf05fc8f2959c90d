use Rattle.std.proofs.Common.{Bool, ◌∷◌, subst, ap, IfErr}
use Rattle.pcap_file.specs.declared.format.Head.{Head}
use Rattle.event_trace.proofs.Choosing.{chosen_still}
use Rattle.simulation.specs.Plans.{planned}
use Rattle.simulation.specs.PrivateSteps.{until_of}
use Rattle.simulation.specs.PrivateGoing.{Shortened}
use Rattle.simulation.specs.PrivateStages.{Reached, one_of_until}
use Rattle.simulation.proofs.Exits.{at_exit, where_ok}
use Rattle.simulation.proofs.Reaching.{counted_same, same_trace, took_until}
use Rattle.simulation.proofs.staging.Stage.take_early.Goals as goal

pub take_ahead-requires-clause-few : goal.take_ahead-requires-clause-few
take_ahead-requires-clause-few g c = let f = c.requires.few in (f.0, f.1, counted_same _ _ f.0 _ _ c.comes_early.ensures.given (same_trace c.comes_early.ensures.play) f.2)

pub returns-in_err-early-clause-short : goal.returns-in_err-early-clause-short
returns-in_err-early-clause-short g c = λ choice text begun ss same r.
    at_exit c.from_residual.result c.in_err-early.field-0.0 _ c.from_residual.ensures.1
    (c.in_err-early.ensures.short (g.C.Core.cluster c.args.run.now.setup.now) choice (planned c.args.run.now.plan) text begun (g.O.Outlet.tape c.args.output.now) (until_of c.args.micros ∷ ss) r)

pub returns-then-not-early-clause-reached : goal.returns-then-not-early-clause-reached
returns-then-not-early-clause-reached g c = λ choice text begun ss same r.
    let cluster = g.C.Core.cluster c.args.run.now.setup.now in
    subst (λ (b : Bool). Reached cluster choice (planned c.args.run.now.plan) text begun (one_of_until b c.args.micros ss) c.comes_early.new.self (g.I.Source.tape c.comes_early.new.input) (g.O.Outlet.tape c.args.output.now)) c.if-not-early.true
    (c.in_ok-early.ensures.reached cluster choice (planned c.args.run.now.plan) text begun (g.O.Outlet.tape c.args.output.now) ss r)

pub returns-clause-reached : goal.returns-clause-reached
returns-clause-reached g c = λ choice text begun ss same r. where_ok c.take_ahead.result _ (λ more done.
    let cluster = g.C.Core.cluster c.args.run.now.setup.now in
    let plan = planned c.args.run.now.plan in
    let one = subst (λ (b : Bool). Reached cluster choice plan text begun (one_of_until b c.args.micros ss) c.comes_early.new.self (g.I.Source.tape c.comes_early.new.input) (g.O.Outlet.tape c.args.output.now)) c.if-not-early.false
    (c.in_ok-early.ensures.reached cluster choice plan text begun (g.O.Outlet.tape c.args.output.now) ss r) in
    took_until cluster choice plan text begun more c.args.micros ss c.take_ahead.new.self _ _ c.comes_early.new.self.intake.ahead (c.in_ok-early.ensures.ahead c.if-not-early.false) (done _ c.take_ahead.ensures.clear)
    (done _ (c.take_ahead.ensures.reached choice text begun (until_of c.args.micros ∷ ss) 0 (chosen_still (λ s. g.P.Spread.choice s) same (ap (λ x. x.spread) c.comes_early.ensures.play)) one)))

pub returns-clause-short : goal.returns-clause-short
returns-clause-short g c = λ choice text begun ss same r.
    let cluster = g.C.Core.cluster c.args.run.now.setup.now in
    let plan = planned c.args.run.now.plan in
    let one = subst (λ (b : Bool). Reached cluster choice plan text begun (one_of_until b c.args.micros ss) c.comes_early.new.self (g.I.Source.tape c.comes_early.new.input) (g.O.Outlet.tape c.args.output.now)) c.if-not-early.false
    (c.in_ok-early.ensures.reached cluster choice plan text begun (g.O.Outlet.tape c.args.output.now) ss r) in
    subst (λ (h : Head). IfErr c.take_ahead.result (λ fault. Shortened cluster choice plan h text (g.I.Source.tape c.take_ahead.new.input) begun (g.O.Outlet.tape c.take_ahead.new.output) fault)) c.comes_early.ensures.head
    (c.take_ahead.ensures.short choice text begun (until_of c.args.micros ∷ ss) 0 (chosen_still (λ s. g.P.Spread.choice s) same (ap (λ x. x.spread) c.comes_early.ensures.play)) one)
