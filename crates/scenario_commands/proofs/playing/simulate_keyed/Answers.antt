use Rattle.scenario_commands.proofs.playing.simulate_keyed.Goals as goal

pub returns-in-Ok-clause-played : goal.returns-in-Ok-clause-played
returns-in-Ok-clause-played g c = c.in-Ok.ensures.counted.plays
