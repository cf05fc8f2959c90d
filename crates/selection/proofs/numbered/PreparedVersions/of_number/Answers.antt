use Rattle.std.proofs.Common.{◌≡◌, Some, None, List, reverse, find, option_copied, slice_get, ap, sym, ◌∙◌, subst}
use Rattle.std.specs.Prelude.{◌==◌}
use Rattle.selection.specs.Places.{behind_first}
use Rattle.selection.specs.Readied.{Readied}
use Rattle.selection.proofs.Places.{none_first, mirrored_first, got}
use Rattle.selection.proofs.numbered.PreparedVersions.of_number.Goals as goal

pub returns-in-None : goal.returns-in-None
returns-in-None g c =
    let test = λ (p : Readied g.row.S.Denot). p.number == c.args.number in
    let here : behind_first test (reverse c.self.inside.versions.items) ≡ None = sym (c.self.invariant c.args.number) ∙ sym c.get.ensures.value ∙ ap option_copied c.in-None.is in
    subst (λ (ps : List (Readied g.row.S.Denot)). None ≡ find (λ p. p.number == c.args.number) ps) c.self.view_is (sym (none_first test (reverse c.self.inside.versions.items) here))

pub returns-in-Some : goal.returns-in-Some
returns-in-Some g c =
    let test = λ (p : Readied g.row.S.Denot). p.number == c.args.number in
    let here : behind_first test (reverse c.self.inside.versions.items) ≡ Some c.in-Some.place.now = sym (c.self.invariant c.args.number) ∙ sym c.get.ensures.value ∙ ap option_copied c.in-Some.is in
    let at : option_copied c.get-in-Some.result ≡ slice_get c.self.inside.versions.items c.in-Some.place.now =
    got c.deref.result.now c.in-Some.place.now c.get-in-Some.result c.get-in-Some.ensures.lookup
    ∙ ap (λ (ps : List (Readied g.row.S.Denot)). slice_get ps c.in-Some.place.now) c.deref.ensures.value in
    subst (λ (ps : List (Readied g.row.S.Denot)). option_copied c.get-in-Some.result ≡ find (λ p. p.number == c.args.number) ps) c.self.view_is (at ∙ mirrored_first test c.self.inside.versions.items c.in-Some.place.now here)
