use Rattle.std.proofs.Common.{◌≡◌, ◌<◌, take}
use Rattle.std.specs.List.{All}
use Rattle.rollout_plan.proofs.slots.owners_in.Given as goal

abbrev pub invariant-loop-slot : goal.invariant-loop-slot
invariant-loop-slot l = record {
  owners : l.owners.items ≡ take l.slot l.table.owners;
  named : All (λ place. place < l.table.lists) l.owners.items;
}
