use Rattle.std.proofs.Common.{refl, string_bytes}
use Rattle.run_report.specs.Causes.{Lookups, lookups_of}
use Rattle.connection_changes.specs.Turns.{reckoned}
use Rattle.connection_changes.proofs.Told.{places_told}
use Rattle.connection_changes.proofs.lines.push_told_places.Goals as goal

pub returns : goal.returns
returns g c =
    let lookups : Lookups = lookups_of (g.H.FlowHash.plain c.args.hash.now) c.args.catalogue.now.size c.args.catalogue.now in
    places_told c.push_told_counts.result lookups c.args.idle (reckoned c.args.account) _ (string_bytes c.push_changes.new.text) _ c.in_ok-push_changes.ensures
    (c.push_told_counts.ensures lookups refl refl)
