use Rattle.std.proofs.Common.{subst, sym, ℕ}
use Rattle.simulation.specs.declared.fault.SimulationFault.TheVariants.{Capture}
use Rattle.simulation.specs.PrivateStages.{IsOver}
use Rattle.simulation.proofs.Exits.{at_exit}
use Rattle.simulation.proofs.Reaching.{over_of, short_read}
use Rattle.simulation.proofs.staging.Stage.finish.Goals as goal

pub returns-clause-over : goal.returns-clause-over
returns-clause-over g c = λ cluster choice plan text begun out r.
    subst (λ (n : ℕ). IsOver cluster choice plan c.args.self.intake.head text (g.I.Source.tape c.read_rest.new.input) begun out c.args.self.play.trace n c.in_ok-ending.ending) (sym c.given.ensures.value)
    (over_of cluster choice plan text begun c.args.self _ _ out c.in_ok-ending.ending _ r (c.in_ok-ending.ensures.told text r.seen r.read))

pub returns-in_err-ending-clause-short : goal.returns-in_err-ending-clause-short
returns-in_err-ending-clause-short g c = λ cluster choice plan text begun out r.
    at_exit c.from_residual.result (Capture c.in_err-ending.field-0.0) _ c.from_residual.ensures.1
    (short_read cluster choice plan text begun _ c.args.self _ _ out (Capture c.in_err-ending.field-0.0) r (λ bad. cc) (c.in_err-ending.ensures.fault text r.seen r.read))
