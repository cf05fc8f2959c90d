use Rattle.std.proofs.Common.{Ok, ◌∙◌, sym, ap, option_map}
use Rattle.std.specs.Result.{result_ok}
use Rattle.toml.specs.View.{table_view}
use Rattle.scenario.specs.Meaning.{plain_draft}
use Rattle.scenario.proofs.Refusals.{document_says, one_refused, draft_at}
use Rattle.scenario.proofs.Allowed.{draft_supported}
use Rattle.scenario.proofs.reading.read_placed.Goals as goal

pub returns-in-Err-clause-refused : goal.returns-in-Err-clause-refused
returns-in-Err-clause-refused c = c.in-Err.ensures.refused c.args.played

pub returns-in-Ok-scenario_of-clause-supported : goal.returns-in-Ok-scenario_of-clause-supported
returns-in-Ok-scenario_of-clause-supported c = draft_supported c.in-Some.format c.args.played (plain_draft c.in-Ok-Ok.draft) (Ok c.in-Ok-scenario_of.scenario) c.in-Ok-scenario_of.ensures.ok

pub returns-clause-refused : goal.returns-clause-refused
returns-clause-refused c =
    let ms = table_view c.in-Ok.table in
    let d = plain_draft c.in-Ok-Ok.draft in
    one_refused c.in-Some.format c.args.played c.args.text.now ms d c.in-Err-scenario_of.refused.fault c.in-Ok.ensures.ok
    (document_says c.args.played ms c.in-Some.format d (sym c.format_of.ensures ∙ c.in-Some.is) (sym c.in-Ok-Ok.ensures.value ∙ ap (λ r. option_map plain_draft (result_ok r)) c.in-Ok-Ok.field-0-is))
    c.in-Err-scenario_of.ensures.refused

pub returns-clause-place : goal.returns-clause-place
returns-clause-place c =
    let ms = table_view c.in-Ok.table in
    let d = plain_draft c.in-Ok-Ok.draft in
    draft_at c.in-Some.format c.args.played c.args.text.now ms d c.in-Err-scenario_of.refused.fault c.in-Err-scenario_of.refused.place c.in-Ok.ensures.ok
    (sym c.format_of.ensures ∙ c.in-Some.is) (sym c.in-Ok-Ok.ensures.value ∙ ap (λ r. option_map plain_draft (result_ok r)) c.in-Ok-Ok.field-0-is)
    c.in-Err-scenario_of.ensures.refused c.in-Err-scenario_of.ensures.place
