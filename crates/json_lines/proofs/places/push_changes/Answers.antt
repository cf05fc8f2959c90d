use Rattle.std.proofs.Common.{refl, string_bytes}
use Rattle.run_report.specs.Causes.{Lookups, lookups_of}
use Rattle.run_report.proofs.SplitWalks.{lines_more}
use Rattle.json_lines.specs.Places.{change_json}
use Rattle.json_lines.proofs.Told.{change_told}
use Rattle.json_lines.proofs.places.push_changes.Goals as goal

pub loop-change-preserved : goal.loop-change-preserved
loop-change-preserved g c =
    let lookups : Lookups = lookups_of (g.H.FlowHash.plain c.args.hash.now) c.args.catalogue.now.size c.args.catalogue.now in
    lines_more (change_json lookups c.args.idle) c.args.changes.now c.loop-change.change-index c.change-item.result (string_bytes c.loop-change.text) (string_bytes c.push_change.new.text) _ c.loop-change-test.true c.change-item.is
    (change_told lookups c.args.idle c.change-item.result c.slot_of-slot.result c.cause_where-cause.result c.cause_between-why.result (string_bytes c.loop-change.text) (string_bytes c.push_change.new.text)
    c.slot_of-slot.ensures (c.cause_where-cause.ensures lookups refl refl) c.cause_between-why.ensures c.in_ok-push_change.ensures)
    c.loop-change.invariant
