-- A step by time may be in each scenario.
use Rattle.std.proofs.Common.{◌≡◌, ℕ, true, refl}
use Rattle.scenario.specs.Steps.{until, allows}
use Rattle.scenario.specs.declared.playing.Played.{Played}
use Rattle.scenario.specs.declared.playing.Played.TheVariants.{InTurn, OnThreads, NotAtAll}

pub until_allowed : (played : Played) (t : ℕ) → allows played (until t) ≡ true
until_allowed InTurn t = refl
until_allowed OnThreads t = refl
until_allowed NotAtAll t = refl
