use Rattle.std.proofs.Common.{arith, ◌≡◌, ◌+◌, length, refl, sym, ap, ◌∙◌}
use Rattle.run_report.specs.Causes.{Lookups, lookups_of, down_count, moved_count, drained_count, does_anybody_drain}
use Rattle.run_report.proofs.SplitWalks.{causes_add_up, counts_told}
use Rattle.run_report.proofs.split_lines.push_told_counts.Goals as goal

pub push_counts-requires : goal.push_counts-requires
push_counts-requires c =
    let lookups : Lookups = lookups_of (λ bytes. 0) 1 c.args.catalogue.now in
    let whole : down_count lookups c.args.splits.now + moved_count lookups c.args.splits.now + drained_count lookups c.args.splits.now ≡ length c.args.splits.now = causes_add_up lookups c.args.splits.now in
    let down : c.gone_of-gone.result.down ≡ down_count lookups c.args.splits.now = c.gone_of-gone.ensures.down lookups refl refl in
    let drained : c.gone_of-gone.result.drained ≡ drained_count lookups c.args.splits.now = c.gone_of-gone.ensures.drained lookups refl refl in
    omega (arith, whole, down, drained)

pub returns : goal.returns
returns c = λ lookups ups versions.
    counts_told lookups c.push_counts.result c.args.splits.now c.args.flows (length c.args.splits.now) c.gone_of-gone.result.down c.gone_of-gone.result.drained c.does_anybody_drain-drains.result _ _
    refl (c.gone_of-gone.ensures.down lookups ups versions) (c.gone_of-gone.ensures.drained lookups ups versions)
    (c.does_anybody_drain-drains.ensures ∙ ap does_anybody_drain (sym versions)) c.push_counts.ensures
