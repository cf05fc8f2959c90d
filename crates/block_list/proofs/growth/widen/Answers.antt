use Rattle.std.proofs.Common.{◌≡◌, ◌-◌, ◌<◌, min, length, set, ap, arith}
use Rattle.std.specs.Prelude.{vec_capacity}
use Rattle.std.proofs.lemmas.Result.{on_ok_weaker}
use Rattle.block_list.specs.PrivateBlocks.{room_of}
use Rattle.block_list.specs.declared.growth.TheConstants.{BLOCK}
use Rattle.block_list.proofs.Last.{at_end, stay_set, open_some, is_open, room_last, items_kept, blocks_last}
use Rattle.block_list.proofs.growth.widen.Goals as goal
use Rattle.block_list.proofs.growth.widen.Goals.{then-count-eq1, else-count-eq1}

pub overflow_sub-count : goal.overflow_sub-count
overflow_sub-count g c =
    let more : 0 < length c.args.blocks.now.items = open_some BLOCK c.args.blocks.now.items c.requires.«open» in
    omega (arith, more, c.len-count.ensures, c.args.blocks.now.ok.0)

pub index_mut-block-requires : goal.index_mut-block-requires
index_mut-block-requires g c =
    let more : 0 < length c.args.blocks.now.items = open_some BLOCK c.args.blocks.now.items c.requires.«open» in
    omega (arith, more, c.len-count.ensures, c.args.blocks.now.ok.0)

pub overflow_sub-rest : goal.overflow_sub-rest
overflow_sub-rest g c =
    let v = c.index_mut-block.result.now in
    let end = at_end c.args.blocks.now c.len-count.result c.len-count.ensures (open_some BLOCK c.args.blocks.now.items c.requires.«open») in
    let free : length v.items < BLOCK = is_open BLOCK _ v c.args.blocks.now.items end c.index_mut-block.ensures.value c.requires.«open» in
    omega (arith, free, v.ok.0, c.len-rest.ensures)

pub reserve_some-requires : goal.reserve_some-requires
reserve_some-requires g c =
    let v = c.index_mut-block.result.now in
    let end = at_end c.args.blocks.now c.len-count.result c.len-count.ensures (open_some BLOCK c.args.blocks.now.items c.requires.«open») in
    let free : length v.items < BLOCK = is_open BLOCK _ v c.args.blocks.now.items end c.index_mut-block.ensures.value c.requires.«open» in
    elim c.if-count-eq1.branch [
      | then-count-eq1 w ↦ omega (arith, free, v.ok.0, c.len-rest.ensures, w.more-is, w.max.ensures, w.min-more.ensures)
      | else-count-eq1 w ↦ omega (arith, free, v.ok.0, c.len-rest.ensures, w.more-is)
    ]

pub returns-clause-blocks : goal.returns-clause-blocks
returns-clause-blocks g c =
    let v = c.index_mut-block.result.now in
    let end = at_end c.args.blocks.now c.len-count.result c.len-count.ensures (open_some BLOCK c.args.blocks.now.items c.requires.«open») in
    let free : length v.items < BLOCK = is_open BLOCK _ v c.args.blocks.now.items end c.index_mut-block.ensures.value c.requires.«open» in
    let same : length c.reserve_some.new.items.items ≡ length v.items = ap length c.reserve_some.ensures.same in
    blocks_last BLOCK _ c.reserve_some.new.items c.args.blocks.now.items c.requires.blocks end (omega (arith, free, same))

pub returns-clause-items : goal.returns-clause-items
returns-clause-items g c = items_kept _ c.index_mut-block.result.now c.reserve_some.new.items c.args.blocks.now.items c.index_mut-block.ensures.value c.reserve_some.ensures.same

pub returns-clause-ok : goal.returns-clause-ok
returns-clause-ok g c =
    let v = c.index_mut-block.result.now in
    let w = c.reserve_some.new.items in
    let end = at_end c.args.blocks.now c.len-count.result c.len-count.ensures (open_some BLOCK c.args.blocks.now.items c.requires.«open») in
    let free : length v.items < BLOCK = is_open BLOCK _ v c.args.blocks.now.items end c.index_mut-block.ensures.value c.requires.«open» in
    let same : length w.items ≡ length v.items = ap length c.reserve_some.ensures.same in
    let room : room_of BLOCK (set c.args.blocks.now.items (c.len-count.result - 1) w) ≡ min (vec_capacity w) BLOCK - length w.items = room_last BLOCK (c.len-count.result - 1) w c.args.blocks.now.items end in
    on_ok_weaker c.reserve_some.result (λ more. omega (arith, room, same, free, more, w.ok.0)) c.reserve_some.ensures.ok

pub returns-clause-stay : goal.returns-clause-stay
returns-clause-stay g c =
    let v = c.index_mut-block.result.now in
    let end = at_end c.args.blocks.now c.len-count.result c.len-count.ensures (open_some BLOCK c.args.blocks.now.items c.requires.«open») in
    let free : length v.items < BLOCK = is_open BLOCK _ v c.args.blocks.now.items end c.index_mut-block.ensures.value c.requires.«open» in
    stay_set BLOCK _ v c.reserve_some.new.items c.args.blocks.now.items (omega (arith, end)) c.index_mut-block.ensures.value free
