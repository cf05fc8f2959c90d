use Rattle.std.proofs.Common.{inl, inr}
use Rattle.scenario_commands.proofs.Unkept.{never_written}
use Rattle.scenario_commands.proofs.playing.answer_keyed.Goals as goal

pub returns-in-Err-clause-stopped : goal.returns-in-Err-clause-stopped
returns-in-Err-clause-stopped g c = elim (c.in-Err.ensures.stopped) [
  | inl s ↦ inl (s.0, (s.1.0, s.1.2))
  | inr rest ↦ inr (elim rest [
    | inl s ↦ inl (s.0, never_written c.in-Err.stopped.fault c.args.scenario.now _ _ s.0, s.1)
    | inr s ↦ inr s
  ])
]

pub returns-in-Ok-clause-played : goal.returns-in-Ok-clause-played
returns-in-Ok-clause-played g c = c.in-Ok.ensures.counted.plays
