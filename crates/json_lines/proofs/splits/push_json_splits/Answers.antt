use Rattle.std.proofs.Common.{refl, string_bytes}
use Rattle.run_report.specs.Causes.{Lookups, lookups_of}
use Rattle.json_lines.proofs.Told.{splits_told}
use Rattle.json_lines.proofs.splits.push_json_splits.Goals as goal

pub returns : goal.returns
returns g c =
    let lookups : Lookups = lookups_of (g.H.FlowHash.plain c.args.hash.now) c.args.catalogue.now.size c.args.catalogue.now in
    splits_told c.push_told_counts.result lookups c.args.flows c.args.splits.now _ (string_bytes c.push_lines.new.text) _ c.in_ok-push_lines.ensures (c.push_told_counts.ensures lookups refl refl)
