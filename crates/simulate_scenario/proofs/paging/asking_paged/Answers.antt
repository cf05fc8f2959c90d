use Rattle.std.proofs.Common.{ℕ, List, [], ◌∷◌, ◌++◌, ◌∙◌, ap, sym, subst}
use Rattle.simulate_scenario.specs.Asked.{begun}
use Rattle.simulate_scenario.specs.Paging.{lines_if}
use Rattle.simulate_scenario.proofs.Listed.{none_numbered, none_listed}
use Rattle.simulate_scenario.proofs.paging.asking_paged.Goals as goal

pub returns-clause-fresh : goal.returns-clause-fresh
returns-clause-fresh g c =
    let wanted = c.args.listing.wanted in
    let pages = c.args.listing.pages in
    let head = c.in_ok-push_head.ensures ∙ ap (λ (text : List ℕ). text ++ begun wanted.form) c.new-lines.ensures.bytes in
    record {
      beside_is = c.unlisted-unlisted.ensures;
      kept_are = c.in_ok-kept.ensures;
      numbers = none_numbered wanted.list;
      first = pages;
      first_is = c.and-first.ensures ∙ ap (λ items. pages ∷ items) c.new.ensures;
      lines_told = subst (λ (text : List ℕ). g.P.Pages.told pages pages text (lines_if wanted.form wanted.list [])) (sym head)
          (subst (λ (whole : List ℕ). g.P.Pages.told pages pages (begun wanted.form) whole) (sym (none_listed wanted.form wanted.list)) (g.met.P.Pages.nothing_told pages (begun wanted.form)));
    }
