use Rattle.std.proofs.Common.{refl, arith}
use Rattle.block_list.specs.PrivateBlocks.{items_of, room_of, AreBlocks}
use Rattle.block_list.proofs.blocks.Blocks.new.Goals as goal

pub invariant_of-result : goal.invariant_of-result
unfolding items_of AreBlocks
invariant_of-result g c = rw c.new.ensures.items (refl, omega arith, tt)

pub returns-clause-items : goal.returns-clause-items
unfolding items_of
returns-clause-items g c = rw c.new.ensures.items refl

pub returns-clause-room : goal.returns-clause-room
unfolding room_of
returns-clause-room g c = rw c.new.ensures.items refl
