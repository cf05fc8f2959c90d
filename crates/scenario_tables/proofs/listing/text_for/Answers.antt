use Rattle.std.proofs.Common.{inr, refl}
use Rattle.scenario_tables.proofs.listing.text_for.Goals as goal

pub returns-clause-fault : goal.returns-clause-fault
returns-clause-fault c = inr (record { meant = c.in-Ok.scenario; means = c.in-Ok.ensures.means; why = c.in-Err-text_of.ensures.fault })

pub returns-clause-place : goal.returns-clause-place
returns-clause-place c = inr ((c.in-Ok.scenario, c.in-Ok.ensures.means), refl)
