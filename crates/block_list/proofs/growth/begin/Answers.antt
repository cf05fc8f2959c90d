use Rattle.std.proofs.Common.{◌≡◌, ◌<◌, length, ap, arith}
use Rattle.block_list.specs.PrivateBlocks.{IsOpen}
use Rattle.block_list.specs.declared.growth.TheConstants.{BLOCK}
use Rattle.block_list.proofs.Last.{at_end, stay_begun, open_is, open_none, is_open, blocks_begun, items_begun, open_begun}
use Rattle.block_list.proofs.growth.begin.Goals as goal
use Rattle.block_list.proofs.growth.begin.Goals.{else-count-ne0-via-then-count-ne0+else-len-lt-BLOCK, else-count-ne0-via-else-count-ne0}

pub returns-then-len-lt-BLOCK-clause-open : goal.returns-then-len-lt-BLOCK-clause-open
returns-then-len-lt-BLOCK-clause-open g c =
    let v = c.index.result.now in
    let some : 0 < length c.args.blocks.now.items = omega (arith, c.if-count-ne0.true, c.len-count.ensures, c.args.blocks.now.ok.0) in
    open_is BLOCK _ v c.args.blocks.now.items (at_end c.args.blocks.now c.len-count.result c.len-count.ensures some) c.index.ensures (omega (arith, c.if-len-lt-BLOCK.true, c.len.ensures, v.ok.0))

pub returns-clause-blocks : goal.returns-clause-blocks
returns-clause-blocks g c =
    let bs = c.args.blocks.now.items in
    let V = c.args.blocks.now in
    let w = c.new.result in
    let none : length w.items ≡ 0 = ap length c.new.ensures.items in
    let full : IsOpen BLOCK bs → ⊥ = λ o. elim c.else-count-ne0.branch [
      | else-count-ne0-via-then-count-ne0+else-len-lt-BLOCK u ↦
          (let v = u.index.result.now in
          let some : 0 < length bs = omega (arith, u.if-count-ne0.true, c.len-count.ensures, V.ok.0) in
          let few : length v.items < BLOCK = is_open BLOCK _ v bs (at_end V c.len-count.result c.len-count.ensures some) u.index.ensures o in
          omega (arith, few, u.if-len-lt-BLOCK.false, u.len.ensures, v.ok.0))
      | else-count-ne0-via-else-count-ne0 u ↦ open_none BLOCK bs (omega (arith, u.if-count-ne0.false, c.len-count.ensures, V.ok.0)) o
    ] in
    rw (c.push_reserved.ensures.items, c.in_ok-reserve_some.ensures.same) (blocks_begun BLOCK w bs c.requires.blocks full (omega (arith, none)))

pub returns-clause-items : goal.returns-clause-items
returns-clause-items g c =
    rw (c.push_reserved.ensures.items, c.in_ok-reserve_some.ensures.same) (items_begun c.new.result c.args.blocks.now.items c.new.ensures.items)

pub returns-clause-open : goal.returns-clause-open
returns-clause-open g c =
    let none : length c.new.result.items ≡ 0 = ap length c.new.ensures.items in
    rw (c.push_reserved.ensures.items, c.in_ok-reserve_some.ensures.same) (open_begun BLOCK c.new.result c.args.blocks.now.items (omega (arith, none)))

pub returns-clause-stay : goal.returns-clause-stay
returns-clause-stay g c = rw (c.push_reserved.ensures.items, c.in_ok-reserve_some.ensures.same) (stay_begun BLOCK c.new.result c.args.blocks.now.items)
