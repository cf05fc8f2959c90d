use Rattle.run_report.specs.Causes.{Lookups, lookups_of}
use Rattle.run_report.specs.Texts.{text_of}
use Rattle.run_report.proofs.SplitWalks.{of_record}
use Rattle.run_report.proofs.split_lines.push_splits.Goals as goal

pub returns : goal.returns
returns g c = λ past book.
    let lookups : Lookups = lookups_of (g.H.FlowHash.plain c.args.hash.now) c.args.catalogue.now.size c.args.catalogue.now in
    of_record c.push_told_splits.result (λ flows ps. text_of lookups flows ps) _ _ _ _ _ _ (c.flows.ensures past book) (c.splits.ensures past book) c.push_told_splits.ensures
