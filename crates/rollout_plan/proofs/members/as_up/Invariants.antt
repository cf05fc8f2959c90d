use Rattle.std.proofs.Common.{◌≡◌, map, take}
use Rattle.rollout_plan.specs.Text.{as_up}
use Rattle.rollout_plan.proofs.members.as_up.Given as goal

abbrev pub invariant-loop-member : goal.invariant-loop-member
invariant-loop-member l = l.ups.items ≡ map as_up (take l.member-index l.members)
