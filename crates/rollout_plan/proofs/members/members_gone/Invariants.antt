use Rattle.std.proofs.Common.{◌≡◌, take}
use Rattle.rollout_plan.specs.Text.{members_gone}
use Rattle.rollout_plan.proofs.members.members_gone.Given as goal

abbrev pub invariant-loop-member : goal.invariant-loop-member
invariant-loop-member l = l.gone.items ≡ members_gone (take l.member-index l.before) l.after
