use Rattle.std.proofs.Common.{◌≡◌, ℕ, ◌-◌, suc, min, length, sym, ap, ◌∙◌, arith}
use Rattle.std.specs.Prelude.{vec_capacity}
use Rattle.block_list.specs.declared.growth.TheConstants.{BLOCK}
use Rattle.block_list.proofs.Last.{last_room, room_none}
use Rattle.block_list.proofs.growth.room.Goals as goal

pub returns-then-count-eq0 : goal.returns-then-count-eq0
returns-then-count-eq0 g c = room_none BLOCK c.args.blocks.now c.if-count-eq0.true

pub returns : goal.returns
returns g c =
    let v = c.index-blocks-count.result in
    let some : suc (length c.args.blocks.now - 1) ≡ length c.args.blocks.now = omega (arith, c.if-count-eq0.false) in
    let h = last_room BLOCK (length c.args.blocks.now - 1) v c.args.blocks.now some c.index-blocks-count.is in
    rw (c.saturating_sub.ensures, c.min.ensures, c.len.ensures, c.capacity.ensures)
    (ap (λ (n : ℕ). min (vec_capacity v) BLOCK - n) v.ok.0 ∙ sym h)
