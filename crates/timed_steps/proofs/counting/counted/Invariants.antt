use Rattle.std.proofs.Common.{length, ◌<◌, ◌^◌, ◌++◌, List, drop}
use Rattle.event_trace.specs.declared.steps.ScenarioStep.{ScenarioStep}
use Rattle.timed_steps.specs.Timed.{counted_from, counted}
use Rattle.timed_steps.specs.Copies.{AreCopies}
use Rattle.timed_steps.proofs.counting.counted.Given as goal

abbrev pub invariant-loop-step : goal.invariant-loop-step
invariant-loop-step l = record {
  few : length l.left < 2 ^ 32;
  rest : (more : List ScenarioStep) → AreCopies more (counted_from l.first l.left (drop l.step-index l.steps)) → AreCopies (l.found.items ++ more) (counted l.times l.steps);
}
