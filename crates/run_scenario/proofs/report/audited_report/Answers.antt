use Rattle.std.proofs.Common.{ℕ, Bool, List, ◌++◌, ap, ◌∙◌}
use Rattle.json_lines.specs.Forms.{report_as, audit_as}
use Rattle.simulate_scenario.specs.Answers.{is_cut}
use Rattle.run_scenario.proofs.report.audited_report.Goals as goal

pub returns : goal.returns
returns c =
    c.in_ok-push_audit.ensures
    ∙ ap (λ (l : List ℕ). l ++ audit_as c.args.form c.args.agrees) (c.in_ok-text.ensures ∙ ap (λ (b : Bool). report_as c.args.form c.args.tally c.args.totals.now b) c.is_cut.ensures)
