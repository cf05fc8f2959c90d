use Rattle.std.proofs.Common.{◌≡◌, ◌+◌, ◌<◌, min, [], ◌∷◌, length, ap, ◌∙◌, arith, length-append}
use Rattle.std.specs.Prelude.{vec_capacity}
use Rattle.block_list.specs.declared.growth.TheConstants.{BLOCK}
use Rattle.block_list.proofs.Last.{at_end, stay_set, room_some, room_free, room_pushed, items_pushed, blocks_last}
use Rattle.block_list.proofs.growth.append.Goals as goal

pub overflow_sub-last : goal.overflow_sub-last
overflow_sub-last g c =
    let more : 0 < length c.args.blocks.now.items = room_some BLOCK c.args.blocks.now.items c.requires.room in
    omega (arith, more, c.len-last.ensures, c.args.blocks.now.ok.0)

pub index_mut-block-requires : goal.index_mut-block-requires
index_mut-block-requires g c =
    let more : 0 < length c.args.blocks.now.items = room_some BLOCK c.args.blocks.now.items c.requires.room in
    omega (arith, more, c.len-last.ensures, c.args.blocks.now.ok.0)

pub push_reserved-requires : goal.push_reserved-requires
push_reserved-requires g c =
    let v = c.index_mut-block.result.now in
    let end = at_end c.args.blocks.now c.len-last.result c.len-last.ensures (room_some BLOCK c.args.blocks.now.items c.requires.room) in
    let free : length v.items < min (vec_capacity v) BLOCK = room_free BLOCK _ v c.args.blocks.now.items end c.index_mut-block.ensures.value c.requires.room in
    omega (arith, free, v.ok.0)

pub returns-clause-blocks : goal.returns-clause-blocks
returns-clause-blocks g c =
    let v = c.index_mut-block.result.now in
    let w = c.push_reserved.new.self in
    let end = at_end c.args.blocks.now c.len-last.result c.len-last.ensures (room_some BLOCK c.args.blocks.now.items c.requires.room) in
    let free : length v.items < min (vec_capacity v) BLOCK = room_free BLOCK _ v c.args.blocks.now.items end c.index_mut-block.ensures.value c.requires.room in
    let one : length w.items ≡ length v.items + 1 = ap length c.push_reserved.ensures.items ∙ length-append v.items (c.args.item ∷ []) in
    blocks_last BLOCK _ w c.args.blocks.now.items c.requires.blocks end (omega (arith, one, free))

pub returns-clause-items : goal.returns-clause-items
returns-clause-items g c =
    let end = at_end c.args.blocks.now c.len-last.result c.len-last.ensures (room_some BLOCK c.args.blocks.now.items c.requires.room) in
    items_pushed _ c.index_mut-block.result.now c.push_reserved.new.self c.args.blocks.now.items c.args.item end c.index_mut-block.ensures.value c.push_reserved.ensures.items

pub returns-clause-room : goal.returns-clause-room
returns-clause-room g c =
    let end = at_end c.args.blocks.now c.len-last.result c.len-last.ensures (room_some BLOCK c.args.blocks.now.items c.requires.room) in
    room_pushed BLOCK _ c.index_mut-block.result.now c.push_reserved.new.self c.args.blocks.now.items c.args.item end c.index_mut-block.ensures.value c.push_reserved.ensures.items
    c.push_reserved.ensures.capacity

pub returns-clause-stay : goal.returns-clause-stay
returns-clause-stay g c =
    let v = c.index_mut-block.result.now in
    let end = at_end c.args.blocks.now c.len-last.result c.len-last.ensures (room_some BLOCK c.args.blocks.now.items c.requires.room) in
    let free : length v.items < min (vec_capacity v) BLOCK = room_free BLOCK _ v c.args.blocks.now.items end c.index_mut-block.ensures.value c.requires.room in
    stay_set BLOCK _ v c.push_reserved.new.self c.args.blocks.now.items (omega (arith, end)) c.index_mut-block.ensures.value (omega (arith, free))
