use Rattle.std.proofs.Common.{◌*◌, ◌≤◌, length, arith}
use Rattle.block_list.specs.PrivateBlocks.{items_of}
use Rattle.block_list.specs.declared.growth.TheConstants.{BLOCK}
use Rattle.block_list.proofs.Places.{counted}
use Rattle.block_list.proofs.blocks.Blocks.push_reserved.Goals as goal

pub overflow_add-self : goal.overflow_add-self
overflow_add-self g c =
    let b = c.self.inside.blocks in
    let few : length (items_of b.items) ≤ length b.items * BLOCK = counted BLOCK b.items c.self.invariant.2 in
    omega (arith, few, c.self.invariant.0, c.self.invariant.1)
