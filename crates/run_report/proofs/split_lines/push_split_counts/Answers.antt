use Rattle.run_report.specs.Texts.{counts_text}
use Rattle.run_report.proofs.SplitWalks.{of_record}
use Rattle.run_report.proofs.split_lines.push_split_counts.Goals as goal

pub returns : goal.returns
returns g c = λ past lookups ups versions book.
    of_record c.push_told_counts.result (λ flows ps. counts_text lookups flows ps) _ _ _ _ _ _ (c.flows.ensures past book) (c.splits.ensures past book) (c.push_told_counts.ensures lookups ups versions)
