use Rattle.std.proofs.Common.{◌≡◌, ℕ, Bool, true, List, ◌++◌, refl, ap, sym, ◌∙◌, arith}
use Rattle.std.proofs.lemmas.Grind.{common_steps}
use Rattle.connection_changes.specs.Turns.{reckoned}
use Rattle.simulate_scenario.specs.Described.{lookups_in}
use Rattle.simulate_scenario.specs.Turned.{turned_summary_if}
use Rattle.json_lines.specs.Forms.{summary_by}
use Rattle.run_scenario.proofs.turned_histories.summary_told.Goals as goal

pub returns : goal.returns
returns c =
    let s = c.args.scenario.now in
    let all = reckoned c.args.account in
    let asked : c.args.options.summary ≡ true = grind (arith, common_steps, c.if-not-options.false) in
    c.in_ok-push_told_summary.ensures (lookups_in s) refl refl
    ∙ ap (λ (l : List ℕ). l ++ summary_by c.args.options.form (lookups_in s) s.idle all) c.new-text.ensures.bytes
    ∙ ap (λ (b : Bool). turned_summary_if c.args.options.form b (lookups_in s) s.idle all) (sym asked)
