use Rattle.std.proofs.Common.{◌≡◌, ◌*◌, ◌≤◌, Some, take}
use Rattle.std.specs.List.{sum_by}
use Rattle.rollout_plan.specs.Counts.{slots_lost}
use Rattle.rollout_plan.proofs.counting.least.Given as goal

abbrev pub invariant-loop-backend : goal.invariant-loop-backend
invariant-loop-backend l = record {
  lost : l.lost ≡ sum_by (λ b. slots_lost l.before l.after (Some b)) (take l.backend-index l.before.ups);
  few : l.lost ≤ l.backend-index * 65537;
}
