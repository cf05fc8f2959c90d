use Rattle.std.proofs.Common.{ℕ, ◌<◌, ◌≤◌, ◌/◌, ◌%◌, length, get_or, refl, sym, ap, ◌∙◌, subst, arith}
use Rattle.std.proofs.lemmas.List.{length-set}
use Rattle.block_list.specs.Blocks.{with_item}
use Rattle.block_list.specs.PrivateBlocks.{items_of}
use Rattle.block_list.specs.declared.growth.TheConstants.{BLOCK, MOST}
use Rattle.block_list.proofs.Places.{in_blocks, in_block, read_at, written_at, view_written, blocks_kept}
use Rattle.block_list.proofs.blocks.BlocksIndexMutUsize.index_mut.Goals as goal

pub index_mut-block-requires : goal.index_mut-block-requires
index_mut-block-requires g c =
    let b = c.self.inside.blocks in
    let low : c.args.at < length (items_of b.items) = subst (λ s. c.args.at < length s.items) (sym c.self.view_is) c.requires in
    let there : c.args.at / BLOCK < length b.items = in_blocks BLOCK c.args.at b.items c.self.invariant.2 low in
    omega (arith, there, b.ok.0)

pub index_mut-requires : goal.index_mut-requires
index_mut-requires g c =
    let b = c.self.inside.blocks in
    let v = c.index_mut-block.result.now in
    let low : c.args.at < length (items_of b.items) = subst (λ s. c.args.at < length s.items) (sym c.self.view_is) c.requires in
    let there : c.args.at % BLOCK < length v.items = in_block BLOCK c.args.at v b.items (omega arith) c.self.invariant.2 low c.index_mut-block.ensures.value in
    omega (arith, there, v.ok.0)

pub invariant_of-self-lent : goal.invariant_of-self-lent
invariant_of-self-lent g c = λ x.
    let b = c.self.inside.blocks in
    let v = c.index_mut-block.result.now in
    let low : c.args.at < length (items_of b.items) = subst (λ s. c.args.at < length s.items) (sym c.self.view_is) c.requires in
    let there : c.args.at / BLOCK < length b.items = in_blocks BLOCK c.args.at b.items c.self.invariant.2 low in
    let long = length-set v.items (c.args.at % BLOCK) x in
    let now = written_at BLOCK c.args.at v _ x b.items (omega arith) c.self.invariant.2 low c.index_mut-block.ensures.value refl in
    let count = length-set b.items (c.args.at / BLOCK) _ in (
      c.self.invariant.0 ∙ sym (length-set (items_of b.items) c.args.at x) ∙ sym (ap length now),
      subst (λ (n : ℕ). n ≤ MOST) (sym count) c.self.invariant.1,
      blocks_kept BLOCK (c.args.at / BLOCK) v _ b.items c.self.invariant.2 there c.index_mut-block.ensures.value long,
    )

pub returns : goal.returns
returns g c =
    let b = c.self.inside.blocks in
    let v = c.index_mut-block.result.now in
    let x = c.index_mut.result.now in
    let low : c.args.at < length (items_of b.items) = subst (λ s. c.args.at < length s.items) (sym c.self.view_is) c.requires in (
      (refl, λ w. view_written BLOCK c.args.at v _ w b.items (omega arith) c.self.invariant.2 low c.index_mut-block.ensures.value refl refl ∙ ap (λ s. with_item s c.args.at w) c.self.view_is),
      record {
        writes_back = tt;
        value = c.index_mut.ensures.value ∙ read_at BLOCK c.args.at v x b.items (omega arith) c.self.invariant.2 low c.index_mut-block.ensures.value ∙ ap (λ s. get_or s.items c.args.at x) c.self.view_is;
      },
    )
