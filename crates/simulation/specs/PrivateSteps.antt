-- The steps that a run does record by record.
use Rattle.std.specs.Prelude.{ℕ}
use Rattle.event_trace.specs.declared.steps.ScenarioStep.{ScenarioStep}
use Rattle.event_trace.specs.declared.steps.ScenarioStep.TheVariants as steps
use Rattle.timed_steps.specs.declared.TimedStep.{TimedStep}
use Rattle.timed_steps.specs.declared.TimedStep.TheVariants.{Counted, Until}

abbrev pub by_count : ScenarioStep → TimedStep
by_count s = Counted s

abbrev pub take_of : ℕ → TimedStep
take_of k = Counted (steps.Take k)

abbrev pub lose_of : ℕ → TimedStep
lose_of k = Counted (steps.Lose k)

abbrev pub again_of : ℕ → TimedStep
again_of k = Counted (steps.Again k)

abbrev pub until_of : ℕ → TimedStep
until_of end = Until end
