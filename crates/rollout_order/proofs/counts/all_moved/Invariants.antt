use Rattle.std.proofs.Common.{◌≡◌, take}
use Rattle.rollout_order.specs.Steps.{all_moved}
use Rattle.rollout_order.proofs.counts.all_moved.Given as goal

abbrev pub invariant-loop-place : goal.invariant-loop-place
invariant-loop-place l = l.total ≡ all_moved (take l.place l.before) (take l.place l.after)
