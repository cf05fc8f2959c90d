use Rattle.simulate_scenario.proofs.Carries.{counted_answers}
use Rattle.simulate_scenario.proofs.playing.play_noted.Goals as goal

pub returns-in-Ok-play_named-clause-counts : goal.returns-in-Ok-play_named-clause-counts
returns-in-Ok-play_named-clause-counts g c = counted_answers _ _ _ _ _ _ c.in-Ok-play_named.answer _ _ _ _ c.in-Ok-play_named.ensures.ok
