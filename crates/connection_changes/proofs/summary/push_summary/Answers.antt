use Rattle.connection_changes.specs.Texts.{summary_in}
use Rattle.connection_changes.proofs.Told.{of_record}
use Rattle.connection_changes.proofs.summary.push_summary.Goals as goal

pub returns : goal.returns
returns c = λ past lookups ups versions book.
    of_record c.push_told_summary.result (λ r. summary_in lookups c.args.idle r) _ _ _ _ (c.account.ensures past book) (c.push_told_summary.ensures lookups ups versions)
