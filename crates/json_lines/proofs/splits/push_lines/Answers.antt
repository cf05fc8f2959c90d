use Rattle.std.proofs.Common.{refl, string_bytes}
use Rattle.run_report.specs.Causes.{Lookups, lookups_of}
use Rattle.run_report.proofs.SplitWalks.{lines_more}
use Rattle.json_lines.specs.Splits.{split_json}
use Rattle.json_lines.proofs.Told.{split_told}
use Rattle.json_lines.proofs.splits.push_lines.Goals as goal

pub loop-split-preserved : goal.loop-split-preserved
loop-split-preserved g c =
    let lookups : Lookups = lookups_of (g.H.FlowHash.plain c.args.hash.now) c.args.catalogue.now.size c.args.catalogue.now in
    lines_more (split_json lookups) c.args.splits.now c.loop-split.split-index c.split-item.result (string_bytes c.loop-split.text) (string_bytes c.push_split.new.text) _ c.loop-split-test.true c.split-item.is
    (split_told lookups c.split-item.result c.slot_of-slot.result c.cause_where-cause.result (string_bytes c.loop-split.text) (string_bytes c.push_split.new.text)
    c.slot_of-slot.ensures (c.cause_where-cause.ensures lookups refl refl) c.in_ok-push_split.ensures)
    c.loop-split.invariant
