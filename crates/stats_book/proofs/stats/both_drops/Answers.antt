use Rattle.std.proofs.Common.{◌≡◌, ◌+◌, ◌<◌, ◌≤◌, ℕ, length, slice_index, slice_index_or, sym, ap, ◌∙◌, arith, rules}
use Rattle.std.proofs.lemmas.List.{length-set}
use Rattle.stats_book.specs.Counts.{sums}
use Rattle.stats_book.proofs.Sums.{index_sums, length_sums, same_places, set_next, set_rest}
use Rattle.stats_book.proofs.stats.both_drops.Goals as goal

pub loop-at-preserved : goal.loop-at-preserved
loop-at-preserved c =
    let had = c.loop-at.invariant in
    let k : ℕ = c.loop-at.at in
    let even : length c.args.some.now ≡ length c.args.others.now = search rules in
    let room : k < length c.loop-at.drops = omega (arith, had.count, c.loop-at-test.true) in
    let now : slice_index_or c.loop-at.drops k 0 + slice_index_or c.args.others.now k 0 ≡ slice_index (sums c.args.some.now c.args.others.now) k
    = ap (λ (n : ℕ). n + slice_index_or c.args.others.now k 0) (had.rest k (omega arith)) ∙ sym (index_sums c.args.some.now c.args.others.now k even) in
    record {
      count = length-set c.loop-at.drops k _ ∙ had.count;
      done = λ i lt. set_next c.loop-at.drops (sums c.args.some.now c.args.others.now) k _ room had.done now i lt;
      rest = λ i le. set_rest c.loop-at.drops k _ i le ∙ had.rest i (omega (arith, le));
    }

pub returns : goal.returns
returns c =
    let even : length c.args.some.now ≡ length c.args.others.now = search rules in
    let thirteen : length c.args.some.now ≡ 13 = search rules in
    let many : length c.loop-at.drops ≡ length c.args.some.now = c.loop-at.invariant.count ∙ sym thirteen in
    let all : length c.loop-at.drops ≤ c.loop-at.at = omega (arith, c.loop-at.invariant.count, c.loop-at-test.false) in
    same_places c.loop-at.drops (sums c.args.some.now c.args.others.now) (many ∙ sym (length_sums c.args.some.now c.args.others.now even))
    (λ i lt. c.loop-at.invariant.done i (omega (arith, lt, all)))
