use Rattle.std.proofs.Common.{◌≡◌, ◌<◌, ◌^◌, take}
use Rattle.std.specs.List.{sum_by}
use Rattle.run_scenario.specs.PrivateFirsts.{may_read}
use Rattle.run_scenario.proofs.orders.kept_for.Given as goal

abbrev pub invariant-loop-step : goal.invariant-loop-step
invariant-loop-step l = record {
  total : l.total ≡ sum_by may_read (take l.step-index l.steps);
  fits : l.total < 2 ^ 64;
}
