use Rattle.std.proofs.Common.{◌∙◌, string_bytes}
use Rattle.connection_changes.specs.Turns.{reckoned}
use Rattle.connection_changes.proofs.Told.{summary_told}
use Rattle.connection_changes.proofs.summary.push_told_summary.Goals as goal

pub returns : goal.returns
returns c = λ lookups ups versions.
    summary_told c.push_causes.result lookups c.args.idle (reckoned c.args.account) c.as_slice.result.now
    (string_bytes c.args.text.now) (string_bytes c.push_count.new.text) (string_bytes c.push_count-2.new.text) (string_bytes c.push_count-3.new.text) _
    (c.as_slice.ensures.value ∙ c.in_ok-causes.ensures lookups ups versions)
    c.in_ok-push_count.ensures c.in_ok-push_count-2.ensures c.in_ok-push_count-3.ensures c.push_causes.ensures
