use Rattle.std.proofs.Common.{◌≡◌, ◌+◌, ◌-◌, ◌≤◌, length, map, drop}
use Rattle.simulation.specs.Sent.{time_of}
use Rattle.timed_steps.specs.Timed.{count_until}
use Rattle.run_scenario.proofs.settled.place_until.Given as goal

abbrev pub invariant-loop-at : goal.invariant-loop-at
invariant-loop-at l = record {
  within : l.at ≤ length l.records;
  rest : l.at + count_until l.first l.end (drop l.at (map time_of l.records)) ≡ l.from + count_until l.first l.end (drop l.from (map time_of l.records));
}

abbrev pub decreases-loop-at : goal.decreases-loop-at
decreases-loop-at l = length l.records - l.at
