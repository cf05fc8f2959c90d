-- What steps by time are: steps by count, over records of these times in microseconds.
use Rattle.std.specs.Prelude.{ℕ, suc, ◌-◌, Bool, nat_lt, if◌then◌else◌, List, [], ◌∷◌, drop}
use Rattle.event_trace.specs.declared.steps.ScenarioStep.{ScenarioStep}
use Rattle.event_trace.specs.declared.steps.ScenarioStep.TheVariants as steps
use Rattle.timed_steps.specs.declared.TimedStep.{TimedStep}
use Rattle.timed_steps.specs.declared.TimedStep.TheVariants.{Counted, Until}

-- the first of some times
abbrev pub first_of : List ℕ → ℕ
first_of [] = 0
first_of (t ∷ ts) = t

-- Whether a record came less than so long after the first. One of an earlier time than the first came as the first did.
abbrev pub is_before : ℕ → ℕ → ℕ → Bool
is_before first end time = nat_lt (time - first) end

-- how many records came less than so long after the first, up to one that didn't
abbrev pub count_until : ℕ → ℕ → List ℕ → ℕ
count_until first end [] = 0
count_until first end (t ∷ ts) = if is_before first end t then suc (count_until first end ts) else 0

-- how many records a step by count reads, where they are there
abbrev pub reads : ScenarioStep → ℕ
reads (steps.Install n v) = 0
reads (steps.Live ns) = 0
reads (steps.Take k) = k
reads (steps.Lose k) = k
reads (steps.Again k) = 0
reads (steps.Full n m) = 0
reads (steps.Hold n) = 0
reads (steps.Drain n) = 0
reads (steps.Restart n) = 0
reads (steps.Stop n) = 0

-- the step by count that a step is, where these are the times of the records that are left
abbrev pub counted_step : ℕ → List ℕ → TimedStep → ScenarioStep
counted_step first left (Counted s) = s
counted_step first left (Until end) = steps.Take (count_until first end left)

-- the steps by count that steps are from there on
abbrev pub counted_from : ℕ → List ℕ → List TimedStep → List ScenarioStep
counted_from first left [] = []
counted_from first left (s ∷ ss) = counted_step first left s ∷ counted_from first (drop (reads (counted_step first left s)) left) ss

-- the steps by count that steps are over all records of a capture, of these times
abbrev pub counted : List ℕ → List TimedStep → List ScenarioStep
counted times ss = counted_from (first_of times) times ss
