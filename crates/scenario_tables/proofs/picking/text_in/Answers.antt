use Rattle.std.proofs.Common.{inr, refl}
use Rattle.scenario_tables.proofs.picking.text_in.Goals as goal

pub returns-clause-fault : goal.returns-clause-fault
returns-clause-fault g c = inr (record { meant = c.in-Ok.scenario; means = c.in-Ok.ensures.means; why = c.in-Err-text_for.ensures.fault })

pub returns-clause-place : goal.returns-clause-place
returns-clause-place g c = inr ((c.in-Ok.scenario, c.in-Ok.ensures.means), refl)
