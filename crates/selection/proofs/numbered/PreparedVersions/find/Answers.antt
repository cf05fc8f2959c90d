use Rattle.std.proofs.Common.{◌≡◌, Bool, true, List, [], ◌∷◌, find, slice_get, Some, option_copied, ap, sym, ◌∙◌}
use Rattle.std.specs.Prelude.{◌==◌}
use Rattle.std.proofs.lemmas.Bool.{eq-eqb}
use Rattle.selection.specs.Readied.{Readied}
use Rattle.selection.proofs.numbered.PreparedVersions.find.Goals as goal

-- the first of a list, where it passes, is the first that passes
first_passes : {X : Type 0} (test : X → Bool) (xs : List X) (x : X) → slice_get xs 0 ≡ Some x → test x ≡ true → Some x ≡ find test xs
first_passes test [] x at passes = absurd cc
first_passes test (y ∷ ys) x at passes =
    let same : x ≡ y = cc in
    let y_passes : test y ≡ true = ap test (sym same) ∙ passes in
    rw y_passes (sym at)

pub returns-in-Some : goal.returns-in-Some
returns-in-Some g c = first_passes (λ (p : Readied g.row.S.Denot). p.number == c.args.number) c.args.self.now c.in-Some.version.now (sym c.last.ensures ∙ ap option_copied c.in-Some.is) (eq-eqb c.in-Some.version.now.number c.args.number (sym c.number.ensures ∙ c.if-number.true))
