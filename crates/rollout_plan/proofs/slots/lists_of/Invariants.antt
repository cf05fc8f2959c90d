use Rattle.std.proofs.Common.{◌≡◌, ◌++◌, drop}
use Rattle.hash_laws.specs.Any.{plain_of}
use Rattle.selection.specs.Picks.{preferences}
use Rattle.rollout_plan.proofs.slots.lists_of.Given as goal

abbrev pub invariant-loop-backend : goal.invariant-loop-backend
invariant-loop-backend l = l.lists.items ++ preferences (plain_of l.hash) l.size (drop l.backend-index l.ups) ≡ preferences (plain_of l.hash) l.size l.ups
