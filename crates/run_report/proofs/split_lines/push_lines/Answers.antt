use Rattle.std.proofs.Common.{arith, ◌≡◌, ℕ, ◌+◌, ◌++◌, length, drop, refl, ap, ◌∙◌, string_bytes}
use Rattle.run_report.specs.declared.cause.SplitCause.{SplitCause}
use Rattle.run_report.specs.Causes.{Lookups, lookups_of, cause_of, down_one, drained_one, down_count, moved_count, drained_count}
use Rattle.run_report.specs.Texts.{line_of, split_line}
use Rattle.run_report.proofs.SplitWalks.{lines_more, sum_more, causes_add_up}
use Rattle.run_report.proofs.split_lines.push_lines.Goals as goal

pub overflow_add-down : goal.overflow_add-down
overflow_add-down g c =
    let lookups : Lookups = lookups_of (g.H.FlowHash.plain c.args.hash.now) c.args.catalogue.now.size c.args.catalogue.now in
    let is : c.count_down-down.result ≡ down_one (cause_of lookups c.split-item.result) = c.count_down-down.ensures ∙ ap down_one (c.cause_where-cause.ensures lookups refl refl) in
    let more : c.loop-split.down + down_one (cause_of lookups c.split-item.result) + down_count lookups (drop (c.loop-split.split-index + 1) c.args.splits.now) ≡ down_count lookups c.args.splits.now =
    sum_more (λ p. down_one (cause_of lookups p)) c.args.splits.now c.loop-split.split-index c.split-item.result c.loop-split.down (down_count lookups c.args.splits.now) c.loop-split-test.true c.split-item.is c.loop-split.invariant.down in
    let whole : down_count lookups c.args.splits.now + moved_count lookups c.args.splits.now + drained_count lookups c.args.splits.now ≡ length c.args.splits.now = causes_add_up lookups c.args.splits.now in
    omega (arith, is, more, whole)

pub overflow_add-drained : goal.overflow_add-drained
overflow_add-drained g c =
    let lookups : Lookups = lookups_of (g.H.FlowHash.plain c.args.hash.now) c.args.catalogue.now.size c.args.catalogue.now in
    let is : c.count_drained-drained.result ≡ drained_one (cause_of lookups c.split-item.result) = c.count_drained-drained.ensures ∙ ap drained_one (c.cause_where-cause.ensures lookups refl refl) in
    let more : c.loop-split.drained + drained_one (cause_of lookups c.split-item.result) + drained_count lookups (drop (c.loop-split.split-index + 1) c.args.splits.now) ≡ drained_count lookups c.args.splits.now =
    sum_more (λ p. drained_one (cause_of lookups p)) c.args.splits.now c.loop-split.split-index c.split-item.result c.loop-split.drained (drained_count lookups c.args.splits.now) c.loop-split-test.true c.split-item.is c.loop-split.invariant.drained in
    let whole : down_count lookups c.args.splits.now + moved_count lookups c.args.splits.now + drained_count lookups c.args.splits.now ≡ length c.args.splits.now = causes_add_up lookups c.args.splits.now in
    omega (arith, is, more, whole)

pub loop-split-preserved : goal.loop-split-preserved
loop-split-preserved g c =
    let lookups : Lookups = lookups_of (g.H.FlowHash.plain c.args.hash.now) c.args.catalogue.now.size c.args.catalogue.now in
    let is : c.count_down-down.result ≡ down_one (cause_of lookups c.split-item.result) = c.count_down-down.ensures ∙ ap down_one (c.cause_where-cause.ensures lookups refl refl) in
    let gone : c.count_drained-drained.result ≡ drained_one (cause_of lookups c.split-item.result) = c.count_drained-drained.ensures ∙ ap drained_one (c.cause_where-cause.ensures lookups refl refl) in
    record {
      text = lines_more (split_line lookups) c.args.splits.now c.loop-split.split-index c.split-item.result (string_bytes c.loop-split.text) (string_bytes c.push_split.new.text) _ c.loop-split-test.true c.split-item.is
          (c.in_ok-push_split.ensures
          ∙ ap (λ (slot : ℕ). string_bytes c.loop-split.text ++ line_of c.split-item.result slot c.cause_where-cause.result) c.slot_of-slot.ensures
          ∙ ap (λ (cause : SplitCause). string_bytes c.loop-split.text ++ line_of c.split-item.result (lookups.slot c.split-item.result.later.flow) cause) (c.cause_where-cause.ensures lookups refl refl))
          c.loop-split.invariant.text;
      down = ap (λ (n : ℕ). c.loop-split.down + n + down_count lookups (drop (c.loop-split.split-index + 1) c.args.splits.now)) is
          ∙ sum_more (λ p. down_one (cause_of lookups p)) c.args.splits.now c.loop-split.split-index c.split-item.result c.loop-split.down (down_count lookups c.args.splits.now) c.loop-split-test.true c.split-item.is c.loop-split.invariant.down;
      drained = ap (λ (n : ℕ). c.loop-split.drained + n + drained_count lookups (drop (c.loop-split.split-index + 1) c.args.splits.now)) gone
          ∙ sum_more (λ p. drained_one (cause_of lookups p)) c.args.splits.now c.loop-split.split-index c.split-item.result c.loop-split.drained (drained_count lookups c.args.splits.now) c.loop-split-test.true c.split-item.is c.loop-split.invariant.drained;
    }
