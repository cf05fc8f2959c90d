use Rattle.std.proofs.Common.{◌<◌, ◌/◌, ◌%◌, length, get_or, sym, ap, ◌∙◌, subst, arith}
use Rattle.block_list.specs.PrivateBlocks.{items_of}
use Rattle.block_list.specs.declared.growth.TheConstants.{BLOCK}
use Rattle.block_list.proofs.Places.{in_blocks, in_block, read_at}
use Rattle.block_list.proofs.blocks.BlocksIndexUsize.index.Goals as goal

pub index-requires : goal.index-requires
index-requires g c =
    let b = c.self.inside.blocks in
    let low : c.args.at < length (items_of b.items) = subst (λ s. c.args.at < length s.items) (sym c.self.view_is) c.requires in
    let there : c.args.at / BLOCK < length b.items = in_blocks BLOCK c.args.at b.items c.self.invariant.2 low in
    omega (arith, there, b.ok.0)

pub index-requires-2 : goal.index-requires-2
index-requires-2 g c =
    let b = c.self.inside.blocks in
    let v = c.index.result.now in
    let low : c.args.at < length (items_of b.items) = subst (λ s. c.args.at < length s.items) (sym c.self.view_is) c.requires in
    let there : c.args.at % BLOCK < length v.items = in_block BLOCK c.args.at v b.items (omega arith) c.self.invariant.2 low c.index.ensures in
    omega (arith, there, v.ok.0)

pub returns : goal.returns
returns g c =
    let b = c.self.inside.blocks in
    let x = c.index-2.result.now in
    let low : c.args.at < length (items_of b.items) = subst (λ s. c.args.at < length s.items) (sym c.self.view_is) c.requires in
    c.index-2.ensures ∙ read_at BLOCK c.args.at c.index.result.now x b.items (omega arith) c.self.invariant.2 low c.index.ensures
    ∙ ap (λ s. get_or s.items c.args.at x) c.self.view_is
