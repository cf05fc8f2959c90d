use Rattle.std.proofs.Common.{arith, ◌≡◌, ℕ, ◌+◌, length, drop, refl, ap, ◌∙◌}
use Rattle.run_report.specs.Causes.{Lookups, lookups_of, cause_of, down_one, drained_one, down_count, moved_count, drained_count}
use Rattle.run_report.proofs.SplitWalks.{sum_more, causes_add_up}
use Rattle.run_report.proofs.split_lines.gone_of.Goals as goal

pub overflow_add-down : goal.overflow_add-down
overflow_add-down c =
    let lookups : Lookups = lookups_of (λ bytes. 0) 1 c.args.catalogue.now in
    let is : c.count_down-down.result ≡ down_one (cause_of lookups c.split-item.result) = c.count_down-down.ensures ∙ ap down_one (c.cause_where-cause.ensures lookups refl refl) in
    let more : c.loop-split.down + down_one (cause_of lookups c.split-item.result) + down_count lookups (drop (c.loop-split.split-index + 1) c.args.splits.now) ≡ down_count lookups c.args.splits.now =
    sum_more (λ p. down_one (cause_of lookups p)) c.args.splits.now c.loop-split.split-index c.split-item.result c.loop-split.down (down_count lookups c.args.splits.now) c.loop-split-test.true c.split-item.is (c.loop-split.invariant.down lookups refl refl) in
    let whole : down_count lookups c.args.splits.now + moved_count lookups c.args.splits.now + drained_count lookups c.args.splits.now ≡ length c.args.splits.now = causes_add_up lookups c.args.splits.now in
    omega (arith, is, more, whole)

pub overflow_add-drained : goal.overflow_add-drained
overflow_add-drained c =
    let lookups : Lookups = lookups_of (λ bytes. 0) 1 c.args.catalogue.now in
    let is : c.count_drained-drained.result ≡ drained_one (cause_of lookups c.split-item.result) = c.count_drained-drained.ensures ∙ ap drained_one (c.cause_where-cause.ensures lookups refl refl) in
    let more : c.loop-split.drained + drained_one (cause_of lookups c.split-item.result) + drained_count lookups (drop (c.loop-split.split-index + 1) c.args.splits.now) ≡ drained_count lookups c.args.splits.now =
    sum_more (λ p. drained_one (cause_of lookups p)) c.args.splits.now c.loop-split.split-index c.split-item.result c.loop-split.drained (drained_count lookups c.args.splits.now) c.loop-split-test.true c.split-item.is (c.loop-split.invariant.drained lookups refl refl) in
    let whole : down_count lookups c.args.splits.now + moved_count lookups c.args.splits.now + drained_count lookups c.args.splits.now ≡ length c.args.splits.now = causes_add_up lookups c.args.splits.now in
    omega (arith, is, more, whole)

pub loop-split-preserved : goal.loop-split-preserved
loop-split-preserved c = record {
  down = λ lookups ups versions.
      let is : c.count_down-down.result ≡ down_one (cause_of lookups c.split-item.result) = c.count_down-down.ensures ∙ ap down_one (c.cause_where-cause.ensures lookups ups versions) in
      ap (λ (n : ℕ). c.loop-split.down + n + down_count lookups (drop (c.loop-split.split-index + 1) c.args.splits.now)) is
      ∙ sum_more (λ p. down_one (cause_of lookups p)) c.args.splits.now c.loop-split.split-index c.split-item.result c.loop-split.down (down_count lookups c.args.splits.now) c.loop-split-test.true c.split-item.is (c.loop-split.invariant.down lookups ups versions);
  drained = λ lookups ups versions.
      let is : c.count_drained-drained.result ≡ drained_one (cause_of lookups c.split-item.result) = c.count_drained-drained.ensures ∙ ap drained_one (c.cause_where-cause.ensures lookups ups versions) in
      ap (λ (n : ℕ). c.loop-split.drained + n + drained_count lookups (drop (c.loop-split.split-index + 1) c.args.splits.now)) is
      ∙ sum_more (λ p. drained_one (cause_of lookups p)) c.args.splits.now c.loop-split.split-index c.split-item.result c.loop-split.drained (drained_count lookups c.args.splits.now) c.loop-split-test.true c.split-item.is (c.loop-split.invariant.drained lookups ups versions);
}
