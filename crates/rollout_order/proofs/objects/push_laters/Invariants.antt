use Rattle.std.proofs.Common.{◌≡◌, ◌++◌, take, string_bytes}
use Rattle.std.specs.List.{flat_map}
use Rattle.rollout_order.specs.Objects.{later_step}
use Rattle.rollout_order.proofs.objects.push_laters.Given as goal

abbrev pub invariant-loop-place : goal.invariant-loop-place
invariant-loop-place l = string_bytes l.text ≡ string_bytes l.initial.text ++ flat_map (later_step l.rollout) (take l.place-index l.steps)
