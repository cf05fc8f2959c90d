use Rattle.std.proofs.Common.{length, ◌-◌, ◌≡◌, drop, ◌+◌, ◌≤◌}
use Rattle.timed_steps.specs.Timed.{count_until}
use Rattle.timed_steps.proofs.counting.count_until.Given as goal

abbrev pub invariant-loop-count : goal.invariant-loop-count
invariant-loop-count l = record {
  within : l.count ≤ length l.left;
  rest : l.count + count_until l.first l.end (drop l.count l.left) ≡ count_until l.first l.end l.left;
}

abbrev pub decreases-loop-count : goal.decreases-loop-count
decreases-loop-count l = length l.left - l.count
