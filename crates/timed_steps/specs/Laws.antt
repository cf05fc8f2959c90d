-- What is true of all steps by time.
use Rattle.std.specs.Prelude.{◌≡◌, ℕ, Bool, true, false, List, [], map}
use Rattle.std.specs.List.{list_any}
use Rattle.event_trace.specs.declared.steps.ScenarioStep.{ScenarioStep}
use Rattle.timed_steps.specs.declared.TimedStep.{TimedStep}
use Rattle.timed_steps.specs.declared.TimedStep.TheVariants.{Counted, Until}
use Rattle.timed_steps.specs.Timed.{counted}

abbrev pub is_until : TimedStep → Bool
is_until (Counted s) = false
is_until (Until end) = true

-- steps by count are what they are, whenever records came
abbrev pub StepsByCountStay : Type 0
StepsByCountStay = (times : List ℕ) (ss : List ScenarioStep) → counted times (map (λ s. Counted s) ss) ≡ ss

-- where no step is by time, no record's time is asked
abbrev pub NoTimeIsAsked : Type 0
NoTimeIsAsked = (times : List ℕ) (ss : List TimedStep) → list_any is_until ss ≡ false → counted times ss ≡ counted [] ss
