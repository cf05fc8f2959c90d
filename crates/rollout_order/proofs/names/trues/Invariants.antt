use Rattle.std.proofs.Common.{◌≡◌, ◌≤◌, take}
use Rattle.rollout_order.specs.Steps.{trues}
use Rattle.rollout_order.proofs.names.trues.Given as goal

abbrev pub invariant-loop-mark : goal.invariant-loop-mark
invariant-loop-mark l = record {
  found : l.found ≡ trues (take l.mark-index l.marks);
  few : l.found ≤ l.mark-index;
}
