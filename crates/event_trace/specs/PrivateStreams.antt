use Rattle.std.specs.Prelude.{ℕ}
use Rattle.event_trace.specs.declared.steps.ScenarioStep.{ScenarioStep}
use Rattle.event_trace.specs.declared.steps.ScenarioStep.TheVariants as steps

abbrev pub take_of : ℕ → ScenarioStep
take_of k = steps.Take k

abbrev pub lose_of : ℕ → ScenarioStep
lose_of k = steps.Lose k

abbrev pub again_of : ℕ → ScenarioStep
again_of k = steps.Again k
