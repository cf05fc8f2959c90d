use Rattle.std.proofs.Common.{◌≡◌, ◌++◌, List, ℕ, sym, string_bytes, subst}
use Rattle.std.specs.Prelude.{OnOk}
use Rattle.scenario_sketch.proofs.Texts.{first_services}
use Rattle.scenario_sketch.proofs.sketch_text.push_services.Goals as goal

pub returns : goal.returns
returns c =
    subst (λ (text : List ℕ). OnOk c.push_all.result (string_bytes c.push_all.new.text ≡ string_bytes c.args.text.now ++ text))
    (first_services c.args.ranked.now c.min-most.result (sym c.if-is_empty.ensures) c.min-most.ensures) c.push_all.ensures
