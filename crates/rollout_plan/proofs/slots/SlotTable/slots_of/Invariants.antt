use Rattle.std.proofs.Common.{◌≡◌, ◌≤◌, length}
use Rattle.std.specs.List.{count_by}
use Rattle.rollout_plan.proofs.SlotCounts.{taken_below}
use Rattle.rollout_plan.proofs.slots.SlotTable.slots_of.Given as goal

abbrev pub invariant-loop-place : goal.invariant-loop-place
invariant-loop-place l = record {
  slots : l.slots ≡ count_by (taken_below l.backend l.self.ups l.place) l.self.owners;
  within : l.place ≤ length l.self.ups;
}
