use Rattle.std.proofs.Common.{◌≡◌, ◌+◌, length}
use Rattle.node_life.proofs.life.start.Given as goal

abbrev pub invariant-loop-outfit : goal.invariant-loop-outfit
invariant-loop-outfit g l = length l.hands.items + length l.outfit-iterator.rest.items ≡ length l.fn.outfits.items
