use Rattle.run_report.specs.Causes.{Lookups, lookups_of}
use Rattle.connection_changes.specs.Texts.{places_in}
use Rattle.connection_changes.proofs.Told.{of_record}
use Rattle.connection_changes.proofs.lines.push_places.Goals as goal

pub returns : goal.returns
returns g c = λ past book.
    let lookups : Lookups = lookups_of (g.H.FlowHash.plain c.args.hash.now) c.args.catalogue.now.size c.args.catalogue.now in
    of_record c.push_told_places.result (λ r. places_in lookups c.args.idle r) _ _ _ _ (c.account.ensures past book) c.push_told_places.ensures
