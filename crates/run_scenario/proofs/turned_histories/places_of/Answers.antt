use Rattle.std.proofs.Common.{ℕ, List, ◌++◌, ap, ◌∙◌}
use Rattle.hash_laws.specs.Any.{plain_of}
use Rattle.run_report.specs.Causes.{lookups_of}
use Rattle.connection_changes.specs.Turns.{reckoned}
use Rattle.json_lines.specs.Forms.{places_by}
use Rattle.run_scenario.proofs.turned_histories.places_of.Goals as goal

pub returns : goal.returns
returns c =
    let s = c.args.scenario.now in
    let told : ℕ → List ℕ = λ n. places_by c.args.form (lookups_of (plain_of s.hash) n s.catalogue) s.idle (reckoned c.args.account) in
    c.in_ok-push_told_places.ensures ∙ ap (λ (l : List ℕ). l ++ told s.catalogue.size) c.new-text.ensures.bytes ∙ ap told c.args.scenario.now.sized
