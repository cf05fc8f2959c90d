use Rattle.std.proofs.Common.{◌≡◌, ◌≤◌, length, map, drop}
use Rattle.simulation.specs.Sent.{time_of}
use Rattle.run_scenario.specs.PrivateFirsts.{settled_from}
use Rattle.run_scenario.proofs.settled.is_settled.Given as goal

abbrev pub invariant-loop-step : goal.invariant-loop-step
invariant-loop-step l = record {
  within : l.at ≤ length l.records;
  rest : settled_from l.first (drop l.at (map time_of l.records)) (drop l.step-index l.steps) ≡ settled_from l.first (map time_of l.records) l.steps;
}
