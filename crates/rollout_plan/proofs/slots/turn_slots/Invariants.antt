use Rattle.std.proofs.Common.{◌≡◌, ◌<◌, ◌%◌, map}
use Rattle.std.specs.List.{All, range_with_len}
use Rattle.rollout_plan.proofs.slots.turn_slots.Given as goal

abbrev pub invariant-loop-slot : goal.invariant-loop-slot
invariant-loop-slot l = record {
  places : l.places.items ≡ map (λ slot. slot % l.backends) (range_with_len 0 l.slot);
  named : All (λ place. place < l.backends) l.places.items;
}
