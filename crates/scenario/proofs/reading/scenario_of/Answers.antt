use Rattle.std.proofs.Common.{arith, rules}
use Rattle.std.proofs.lemmas.Grind.{common_steps}
use Rattle.toml.specs.View.{table_view}
use Rattle.scenario.specs.Meaning.{plain_draft}
use Rattle.scenario.proofs.Refusals.{versions_refused, versions_placed}
use Rattle.scenario.proofs.reading.scenario_of.Goals as goal

pub returns-in_err-versions-clause-ok : goal.returns-in_err-versions-clause-ok
returns-in_err-versions-clause-ok c = grind (arith, common_steps)

pub returns-in_err-catalogue-clause-ok : goal.returns-in_err-catalogue-clause-ok
returns-in_err-catalogue-clause-ok c = grind (arith, common_steps)

pub returns-in-Err-clause-ok : goal.returns-in-Err-clause-ok
returns-in-Err-clause-ok c = grind (arith, common_steps)

pub returns-clause-refused : goal.returns-clause-refused
returns-clause-refused c = grind (arith, common_steps)

pub returns-in_err-versions-clause-refused : goal.returns-in_err-versions-clause-refused
returns-in_err-versions-clause-refused c =
    versions_refused c.args.format c.args.played (plain_draft c.args.draft) _ c.from_residual.result c.in_err-versions.field-0.0 (search rules) c.from_residual.ensures.1 c.in_err-versions.ensures.refused

pub returns-in_err-versions-clause-place : goal.returns-in_err-versions-clause-place
returns-in_err-versions-clause-place c =
    versions_placed (table_view c.args.table.now) (plain_draft c.args.draft) _ c.from_residual.result c.in_err-versions.field-0.0 (search rules) c.from_residual.ensures.1
    c.in_err-versions.ensures.refused c.in_err-versions.ensures.place
