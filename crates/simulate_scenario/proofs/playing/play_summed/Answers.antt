use Rattle.simulate_scenario.proofs.Summed.{summed_answers}
use Rattle.simulate_scenario.proofs.playing.play_summed.Goals as goal

pub returns-in-Ok-clause-counts : goal.returns-in-Ok-clause-counts
returns-in-Ok-clause-counts g c = summed_answers _ _ _ _ _ c.args.wanted c.in-Ok.answer _ _ _ _ c.requires.wanted c.requires.idle c.in-Ok.ensures.ok
