-- The better of two steps.
use Rattle.std.specs.Prelude.{ℕ, nat_le, if◌then◌else◌, Option, Some, None}
use Rattle.rollout_order.specs.declared.greedy.Step.{Step}

-- the one that was there, unless the one behind it moves fewer slots
abbrev pub better_of : Option Step → ℕ → ℕ → Step
better_of None place moved = record { place = place; moved = moved }
better_of (Some best) place moved = if nat_le best.moved moved then best else record { place = place; moved = moved }
