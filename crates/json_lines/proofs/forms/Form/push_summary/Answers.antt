use Rattle.json_lines.specs.Forms.{summary_by}
use Rattle.json_lines.proofs.Told.{of_reckoning}
use Rattle.json_lines.proofs.forms.Form.push_summary.Goals as goal

pub returns : goal.returns
returns c = λ past lookups ups versions book.
    of_reckoning c.push_told_summary.result (λ r. summary_by c.args.self lookups c.args.idle r) _ _ _ _ (c.account.ensures past book) (c.push_told_summary.ensures lookups ups versions)
