use Rattle.std.proofs.Common.{◌≡◌, ◌++◌, filter, take}
use Rattle.rollout_order.specs.Steps.{is_named}
use Rattle.rollout_order.proofs.counts.push_named.Given as goal

abbrev pub invariant-loop-member : goal.invariant-loop-member
invariant-loop-member l = l.found.items ≡ l.initial.found.items ++ filter (is_named l.names) (take l.member-index l.members)
