use Rattle.std.proofs.Common.{◌∷◌, refl, sym, ◌∙◌}
use Rattle.simulation.specs.PrivateSteps.{until_of}
use Rattle.simulation.specs.declared.fault.SimulationFault.TheVariants.{Capture}
use Rattle.simulation.specs.declared.staging.Stage.{Stage}
use Rattle.simulation.proofs.Exits.{at_exit}
use Rattle.simulation.proofs.Intakes.{read_refused}
use Rattle.simulation.proofs.Reaching.{short_read, reached_until, reached_looked, early_ahead}
use Rattle.simulation.proofs.staging.Stage.comes_early.Goals as goal

pub returns-clause-ahead : goal.returns-clause-ahead
returns-clause-ahead g c = λ early. early_ahead _ c.args.micros _ (sym early ∙ c.is_early.ensures)

pub returns-clause-reached : goal.returns-clause-reached
returns-clause-reached g c = λ cluster choice plan text begun out ss r.
    let old = c.args.self.now in
    let new : Stage _ = record { play = old.play; delivery = old.delivery; relay = old.relay; kept = old.kept; intake = c.look.new.self } in
    reached_until cluster choice plan text begun c.is_early.result c.args.micros ss new _ _
    (reached_looked cluster choice plan text begun (until_of c.args.micros ∷ ss) old new _ _ out r (c.in_ok-look.ensures.seen text r.seen r.read) c.in_ok-look.ensures.looked c.look.ensures.head refl refl refl)
    c.is_early.ensures c.in_ok-look.ensures.looked.ended

pub returns-in_err-look-clause-short : goal.returns-in_err-look-clause-short
returns-in_err-look-clause-short g c = λ cluster choice plan text begun out ss r.
    let fault = c.in_err-look.field-0.0 in
    at_exit c.from_residual.result (Capture fault) _ c.from_residual.ensures.1
    (short_read cluster choice plan text begun ss c.args.self.now _ _ out (Capture fault) r (λ bad. cc)
    (read_refused c.args.self.now.intake text _ r.seen fault c.in_err-look.ensures.clear (c.in_err-look.ensures.fault text r.seen r.read)))
