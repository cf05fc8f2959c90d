use Rattle.std.proofs.Common.{inr}
use Rattle.scenario_commands.proofs.turning.ordinals_in.Goals as goal

pub returns-clause-stopped : goal.returns-clause-stopped
returns-clause-stopped g c = inr (record { scenario = c.in-Ok.scenario; means = c.in-Ok.ensures.means; unread = c.in-Err-ordinals_by.ensures.stopped })

pub returns-clause-place : goal.returns-clause-place
returns-clause-place g c = inr ((c.in-Ok.scenario, c.in-Ok.ensures.means), c.in-Err-ordinals_by.ensures.place)
