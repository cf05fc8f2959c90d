use Rattle.std.proofs.Common.{◌≡◌, ℕ, None, take}
use Rattle.simulation.specs.PrivateKeeping.{kept_at, to_keep, times_named}
use Rattle.simulation.proofs.keeping.KeptRecords.of_steps.Given as goal

-- what the steps so far name is to be kept
abbrev pub invariant-loop-step : goal.invariant-loop-step
invariant-loop-step l = (q : ℕ) → kept_at l.kept q ≡ to_keep (times_named q (take l.step-index l.steps)) None
