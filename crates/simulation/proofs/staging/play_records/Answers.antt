use Rattle.std.proofs.Common.{IfOk, IfErr, sym, subst, ◌∙◌}
use Rattle.pcap_file.specs.declared.format.Head.{Head}
use Rattle.simulation.specs.declared.fault.SimulationFault.TheVariants.{Memory}
use Rattle.event_trace.proofs.Choosing.{same_choice}
use Rattle.simulation.specs.Plans.{planned}
use Rattle.simulation.specs.PrivateGoing.{Shortened}
use Rattle.simulation.specs.PrivateStages.{IsOver}
use Rattle.simulation.proofs.Exits.{at_exit}
use Rattle.simulation.proofs.Reaching.{short_none}
use Rattle.simulation.proofs.staging.play_records.Goals as goal

pub returns-in_err-stage-clause-short : goal.returns-in_err-stage-clause-short
returns-in_err-stage-clause-short g c = at_exit c.from_residual.result Memory _ c.from_residual.ensures.1 (short_none _ _ (planned c.args.run.now.plan) c.args.head _ _)

pub returns-in_err-steps-clause-short : goal.returns-in_err-steps-clause-short
returns-in_err-steps-clause-short g c =
    let same = same_choice (λ s. g.P.Spread.choice s) (sym c.in_ok-stage.ensures.spread) in
    let start = c.in_ok-stage.ensures.reached (g.C.Core.cluster c.args.run.now.setup.now) (g.P.Spread.choice c.args.spread) (g.I.Source.tape c.args.input.now) (g.O.Outlet.tape c.args.output.now) c.requires.workers c.requires.cluster c.requires.orderly in
    at_exit c.from_residual-in_err-steps.result c.in_err-steps.field-0.0 _ c.from_residual-in_err-steps.ensures.1
    (subst (λ (h : Head). Shortened (g.C.Core.cluster c.args.run.now.setup.now) (g.P.Spread.choice c.args.spread) (planned c.args.run.now.plan) h (g.I.Source.tape c.args.input.now) (g.I.Source.tape c.steps.new.input) (g.O.Outlet.tape c.args.output.now) (g.O.Outlet.tape c.steps.new.output) c.in_err-steps.field-0.0) c.in_ok-stage.ensures.head
    (c.in_err-steps.ensures.short (g.P.Spread.choice c.args.spread) (g.I.Source.tape c.args.input.now) (g.O.Outlet.tape c.args.output.now) same start))

pub returns-clause-short : goal.returns-clause-short
returns-clause-short g c =
    let same = same_choice (λ s. g.P.Spread.choice s) (sym c.in_ok-stage.ensures.spread) in
    let start = c.in_ok-stage.ensures.reached (g.C.Core.cluster c.args.run.now.setup.now) (g.P.Spread.choice c.args.spread) (g.I.Source.tape c.args.input.now) (g.O.Outlet.tape c.args.output.now) c.requires.workers c.requires.cluster c.requires.orderly in
    let r = c.in_ok-steps.ensures.reached (g.P.Spread.choice c.args.spread) (g.I.Source.tape c.args.input.now) (g.O.Outlet.tape c.args.output.now) same start in
    subst (λ (h : Head). IfErr c.finish.result (λ fault. Shortened (g.C.Core.cluster c.args.run.now.setup.now) (g.P.Spread.choice c.args.spread) (planned c.args.run.now.plan) h (g.I.Source.tape c.args.input.now) (g.I.Source.tape c.finish.new.input) (g.O.Outlet.tape c.args.output.now) (g.O.Outlet.tape c.steps.new.output) fault)) (c.in_ok-steps.ensures.head ∙ c.in_ok-stage.ensures.head)
    (c.finish.ensures.short (g.C.Core.cluster c.args.run.now.setup.now) (g.P.Spread.choice c.args.spread) (planned c.args.run.now.plan) (g.I.Source.tape c.args.input.now) (g.O.Outlet.tape c.args.output.now) _ r)

pub returns-clause-over : goal.returns-clause-over
returns-clause-over g c =
    let same = same_choice (λ s. g.P.Spread.choice s) (sym c.in_ok-stage.ensures.spread) in
    let start = c.in_ok-stage.ensures.reached (g.C.Core.cluster c.args.run.now.setup.now) (g.P.Spread.choice c.args.spread) (g.I.Source.tape c.args.input.now) (g.O.Outlet.tape c.args.output.now) c.requires.workers c.requires.cluster c.requires.orderly in
    let r = c.in_ok-steps.ensures.reached (g.P.Spread.choice c.args.spread) (g.I.Source.tape c.args.input.now) (g.O.Outlet.tape c.args.output.now) same start in
    subst (λ (h : Head). IfOk c.finish.result (λ p. IsOver (g.C.Core.cluster c.args.run.now.setup.now) (g.P.Spread.choice c.args.spread) (planned c.args.run.now.plan) h (g.I.Source.tape c.args.input.now) (g.I.Source.tape c.finish.new.input) (g.O.Outlet.tape c.args.output.now) (g.O.Outlet.tape c.steps.new.output) p.play.trace p.packets p.ending)) (c.in_ok-steps.ensures.head ∙ c.in_ok-stage.ensures.head)
    (c.finish.ensures.over (g.C.Core.cluster c.args.run.now.setup.now) (g.P.Spread.choice c.args.spread) (planned c.args.run.now.plan) (g.I.Source.tape c.args.input.now) (g.O.Outlet.tape c.args.output.now) _ r)
