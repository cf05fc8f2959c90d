use Rattle.std.proofs.Common.{◌≡◌, ◌++◌, take}
use Rattle.rollout_order.specs.Rollouts.{lost}
use Rattle.rollout_order.proofs.rollout.push_lost.Given as goal

abbrev pub invariant-loop-member : goal.invariant-loop-member
invariant-loop-member l = l.found.items ≡ l.initial.found.items ++ lost (take l.member-index l.members) l.others
