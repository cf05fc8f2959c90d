use Rattle.std.proofs.Common.{arith, ◌≡◌, ◌+◌, length, refl}
use Rattle.run_report.specs.Causes.{Lookups, lookups_of, down_count, moved_count, drained_count}
use Rattle.run_report.proofs.SplitWalks.{causes_add_up, text_told}
use Rattle.run_report.proofs.split_lines.push_told_splits.Goals as goal

pub push_counts-requires : goal.push_counts-requires
push_counts-requires g c =
    let lookups : Lookups = lookups_of (g.H.FlowHash.plain c.args.hash.now) c.args.catalogue.now.size c.args.catalogue.now in
    let whole : down_count lookups c.args.splits.now + moved_count lookups c.args.splits.now + drained_count lookups c.args.splits.now ≡ length c.args.splits.now = causes_add_up lookups c.args.splits.now in
    let down : c.in_ok-gone.gone.down ≡ down_count lookups c.args.splits.now = c.in_ok-gone.ensures.down in
    let drained : c.in_ok-gone.gone.drained ≡ drained_count lookups c.args.splits.now = c.in_ok-gone.ensures.drained in
    omega (arith, whole, down, drained)

pub returns : goal.returns
returns g c =
    let lookups : Lookups = lookups_of (g.H.FlowHash.plain c.args.hash.now) c.args.catalogue.now.size c.args.catalogue.now in
    text_told lookups c.push_counts.result c.args.splits.now c.args.flows (length c.args.splits.now) c.in_ok-gone.gone.down c.in_ok-gone.gone.drained c.does_anybody_drain-drains.result _ _ _
    refl c.in_ok-gone.ensures.down c.in_ok-gone.ensures.drained c.does_anybody_drain-drains.ensures c.in_ok-gone.ensures.text c.push_counts.ensures
