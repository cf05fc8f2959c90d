use Rattle.std.proofs.Common.{ℕ, List, ◌++◌, ap, ◌∙◌}
use Rattle.hash_laws.specs.Any.{plain_of}
use Rattle.run_report.specs.Causes.{lookups_of}
use Rattle.json_lines.specs.Forms.{splits_as}
use Rattle.run_scenario.proofs.histories.splits_told.Goals as goal

pub returns : goal.returns
returns g c = λ past book.
    let s = c.args.scenario.now in
    let told : ℕ → List ℕ = λ n. splits_as c.args.form (lookups_of (plain_of s.hash) n s.catalogue) past in
    c.in_ok-push_splits.ensures past book ∙ ap (λ (l : List ℕ). l ++ told s.catalogue.size) c.new-text.ensures.bytes ∙ ap told c.args.scenario.now.sized
