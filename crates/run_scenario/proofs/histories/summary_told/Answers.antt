use Rattle.std.proofs.Common.{◌≡◌, ℕ, Bool, true, List, ◌++◌, refl, ap, sym, ◌∙◌, arith}
use Rattle.std.proofs.lemmas.Grind.{common_steps}
use Rattle.simulate_scenario.specs.Described.{lookups_in}
use Rattle.json_lines.specs.Forms.{summary_as}
use Rattle.run_scenario.specs.PrivateHistories.{said_whole, summary_over}
use Rattle.run_scenario.proofs.histories.summary_told.Goals as goal

pub returns : goal.returns
returns c = λ packets nodes book.
    let s = c.args.scenario.now in
    let asked : c.args.options.summary ≡ true = grind (arith, common_steps, c.if-not-options.false) in
    c.in_ok-push_summary.ensures (said_whole packets nodes) (lookups_in s) refl refl book
    ∙ ap (λ (l : List ℕ). l ++ summary_as c.args.options.form (lookups_in s) s.idle (said_whole packets nodes)) c.new-text.ensures.bytes
    ∙ ap (λ (b : Bool). summary_over c.args.options.form b s packets nodes) (sym asked)
