use Rattle.run_report.specs.Causes.{Lookups, lookups_of}
use Rattle.json_lines.specs.Forms.{told_as}
use Rattle.json_lines.proofs.Told.{of_record}
use Rattle.json_lines.proofs.forms.Form.push_splits.Goals as goal

pub returns : goal.returns
returns g c = λ past book.
    let lookups : Lookups = lookups_of (g.H.FlowHash.plain c.args.hash.now) c.args.catalogue.now.size c.args.catalogue.now in
    of_record c.push_told_splits.result (λ flows ps. told_as c.args.self lookups flows ps) _ _ _ _ _ _ (c.flows.ensures past book) (c.splits.ensures past book) c.push_told_splits.ensures
