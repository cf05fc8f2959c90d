use Rattle.std.proofs.Common.{ℕ, List, [], ◌++◌, ◌∙◌, ap, refl, subst}
use Rattle.traffic_shares.specs.declared.books.AskedShares.{AskedShares}
use Rattle.traffic_shares.specs.Books.{AreShareBooksOf}
use Rattle.simulate_scenario.specs.Asked.{begun_for}
use Rattle.simulate_scenario.proofs.Noted.{none_noted}
use Rattle.simulate_scenario.proofs.notes.Notebook.make.Goals as goal

pub returns : goal.returns
returns c =
    let head = c.in_ok-push_begun.ensures ∙ ap (λ (text : List ℕ). text ++ begun_for c.args.asked.now) c.new-lines.ensures.bytes in
    none_noted _ c.args.asked.now c.is_plain.ensures c.keeps_only_changes.ensures c.new.ensures refl head c.new-2.ensures.of_none c.new-3.ensures (subst (λ (a : AskedShares). AreShareBooksOf a [] c.new-4.result) c.asked_shares.ensures c.new-4.ensures) refl refl refl refl
