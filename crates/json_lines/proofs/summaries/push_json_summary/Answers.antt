use Rattle.std.proofs.Common.{◌∙◌, string_bytes}
use Rattle.connection_changes.specs.Turns.{reckoned}
use Rattle.json_lines.proofs.Told.{summary_told}
use Rattle.json_lines.proofs.summaries.push_json_summary.Goals as goal

pub returns : goal.returns
returns c = λ lookups ups versions.
    summary_told c.push_line.result lookups c.args.idle (reckoned c.args.account) c.as_slice.result.now (string_bytes c.args.text.now) _ (c.as_slice.ensures.value ∙ c.in_ok-causes.ensures lookups ups versions) c.push_line.ensures
