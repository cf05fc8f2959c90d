use Rattle.std.proofs.Common.{◌≡◌, map, take}
use Rattle.simulation.specs.Sent.{time_of}
use Rattle.run_scenario.proofs.orders.times_of.Given as goal

abbrev pub invariant-loop-at : goal.invariant-loop-at
invariant-loop-at l = l.times.items ≡ map time_of (take l.at l.records)
