use Rattle.std.proofs.Common.{ℕ, List, ◌++◌, ap, ◌∙◌}
use Rattle.hash_laws.specs.Any.{plain_of}
use Rattle.run_report.specs.Causes.{lookups_of}
use Rattle.json_lines.specs.Forms.{places_as}
use Rattle.run_scenario.proofs.histories.places_told.Goals as goal

pub returns : goal.returns
returns c = λ past book.
    let s = c.args.scenario.now in
    let told : ℕ → List ℕ = λ n. places_as c.args.form (lookups_of (plain_of s.hash) n s.catalogue) s.idle past in
    c.in_ok-push_places.ensures past book ∙ ap (λ (l : List ℕ). l ++ told s.catalogue.size) c.new-text.ensures.bytes ∙ ap told c.args.scenario.now.sized
