use Rattle.std.proofs.Common.{◌≡◌, map, length}
use Rattle.maglev_table.specs.Turns.{takers, claims, one_turn_each}
use Rattle.maglev_table.proofs.plain.take_turns.Given as goal

abbrev pub invariant-loop-turn : goal.invariant-loop-turn
invariant-loop-turn l = l.slots.items ≡ takers (claims (map (λ w. w.items) l.lists) (one_turn_each (length l.lists)) l.turn) l.size
