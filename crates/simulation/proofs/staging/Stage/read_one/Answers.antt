use Rattle.std.proofs.Common.{Bool, subst}
use Rattle.simulation.specs.declared.fault.SimulationFault.TheVariants.{Capture, Memory}
use Rattle.simulation.specs.Intake.{SeenMore, ReadStops}
use Rattle.simulation.proofs.Exits.{at_exit}
use Rattle.simulation.proofs.Intakes.{read_refused, read_stopped}
use Rattle.simulation.proofs.staging.Stage.read_one.Goals as goal

pub returns-in_err-more-clause-stops : goal.returns-in_err-more-clause-stops
returns-in_err-more-clause-stops g c = λ text seen s.
    at_exit c.from_residual.result (Capture c.in_err-more.field-0.0) (ReadStops c.args.self.now.intake text seen _) c.from_residual.ensures.1
    (read_refused c.args.self.now.intake text _ seen c.in_err-more.field-0.0 c.in_err-more.ensures.clear (c.in_err-more.ensures.fault text seen s))

pub returns-in_err-note-clause-stops : goal.returns-in_err-note-clause-stops
returns-in_err-note-clause-stops g c = λ text seen s.
    at_exit c.from_residual-in_err-note.result Memory (ReadStops c.args.self.now.intake text seen _) c.from_residual-in_err-note.ensures.1
    (read_stopped c.args.self.now.intake c.next.new.self text _ seen (c.in_ok-more.ensures.same c.if-not-more.false).0 c.in_ok-more.ensures.head (c.in_ok-more.ensures.is_next c.if-not-more.false)
    (subst (λ (b : Bool). SeenMore b text seen (g.I.Source.tape c.next.new.input) c.next.new.self) c.if-not-more.false (c.in_ok-more.ensures.more text seen s)))
