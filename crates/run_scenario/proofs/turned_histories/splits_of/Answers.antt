use Rattle.std.proofs.Common.{ℕ, List, ◌++◌, ap, ◌∙◌}
use Rattle.hash_laws.specs.Any.{plain_of}
use Rattle.run_report.specs.Causes.{lookups_of}
use Rattle.json_lines.specs.Forms.{told_as}
use Rattle.run_scenario.proofs.turned_histories.splits_of.Goals as goal

pub returns : goal.returns
returns c =
    let s = c.args.scenario.now in
    let told : ℕ → List ℕ = λ n. told_as c.args.form (lookups_of (plain_of s.hash) n s.catalogue) c.args.account.connections c.args.account.splits.now in
    c.in_ok-push_told_splits.ensures ∙ ap (λ (l : List ℕ). l ++ told s.catalogue.size) c.new-text.ensures.bytes ∙ ap told c.args.scenario.now.sized
