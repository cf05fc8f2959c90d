-- The steps that a cluster on threads knows.
use Rattle.std.specs.Prelude.{◌≡◌, ℕ, Bool, true, false, not, List, Option, position}
use Rattle.event_trace.specs.declared.steps.ScenarioStep.{ScenarioStep}
use Rattle.event_trace.specs.declared.steps.ScenarioStep.TheVariants as steps
use Rattle.timed_steps.specs.declared.TimedStep.{TimedStep}
use Rattle.timed_steps.specs.declared.TimedStep.TheVariants.{Counted, Until}
use Rattle.timed_steps.specs.Timed.{counted}

-- which steps can be a driver's command: none by which workers refuse, or serve nothing for a while
abbrev pub is_known : ScenarioStep → Bool
is_known (steps.Install n v) = true
is_known (steps.Live ns) = true
is_known (steps.Take k) = true
is_known (steps.Lose k) = true
is_known (steps.Again k) = true
is_known (steps.Full n m) = false
is_known (steps.Hold n) = false
is_known (steps.Drain n) = false
is_known (steps.Restart n) = true
is_known (steps.Stop n) = true

-- the place of the first that isn't known
abbrev pub first_unsupported_of : List ScenarioStep → Option ℕ
first_unsupported_of ss = position (λ s. not (is_known s)) ss

-- the same of steps by count and by time: those by time are known
abbrev pub is_known_in : TimedStep → Bool
is_known_in (Counted s) = is_known s
is_known_in (Until end) = true

abbrev pub first_unsupported_in : List TimedStep → Option ℕ
first_unsupported_in ss = position (λ s. not (is_known_in s)) ss

-- whenever records came, a step is known where the step by count that it is then is known
abbrev pub KnownAtAnyTime : Type 0
KnownAtAnyTime = (times : List ℕ) (ss : List TimedStep) → first_unsupported_of (counted times ss) ≡ first_unsupported_in ss
