use Rattle.run_report.specs.Causes.{Lookups, lookups_of}
use Rattle.json_lines.specs.Forms.{places_by}
use Rattle.json_lines.proofs.Told.{of_reckoning}
use Rattle.json_lines.proofs.forms.Form.push_places.Goals as goal

pub returns : goal.returns
returns g c = λ past book.
    let lookups : Lookups = lookups_of (g.H.FlowHash.plain c.args.hash.now) c.args.catalogue.now.size c.args.catalogue.now in
    of_reckoning c.push_told_places.result (λ r. places_by c.args.self lookups c.args.idle r) _ _ _ _ (c.account.ensures past book) c.push_told_places.ensures
