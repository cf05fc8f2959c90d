use Rattle.std.proofs.Common.{◌≡◌, ◌++◌, ◌∷◌, [], ℕ, false, List, sym, ap, ◌∙◌, subst}
use Rattle.std.specs.Prelude.{◌||◌, ◌==◌, is_some}
use Rattle.std.specs.Arc.{arc_value}
use Rattle.std.proofs.lemmas.Result.{on_ok_weaker}
use Rattle.selection.specs.Readied.{Readied, readied_version}
use Rattle.cluster_node.specs.Record.{prepared_at}
use Rattle.shared_versions.specs.Installed.{AreWanted}
use Rattle.shared_versions.proofs.Wanted.{some_same, wanted_put}
use Rattle.shared_versions.proofs.shared.SharedVersions.add.Goals as goal

pub returns-in-Ok : goal.returns-in-Ok
returns-in-Ok g c = λ wanted had.
    let setup = c.args.setup.now in
    let made : c.in-Ok.prepared ≡ readied_version setup.scheme setup.size c.in-Some.version.now =
    c.in-Ok.ensures.made ∙ ap (λ (s : g.row.S.Denot). readied_version s c.size.result c.in-Some.version.now) c.scheme.ensures ∙ ap (λ (z : ℕ). readied_version setup.scheme z c.in-Some.version.now) c.size.ensures in
    let none : is_some (prepared_at c.args.number c.args.self.now) ≡ false =
    ap (λ o. is_some o) (sym c.find.ensures) ∙ sym (some_same arc_value c.find.result) ∙ sym c.is_some.ensures ∙ c.if-is_some.false in
    on_ok_weaker c.put.result (λ e. subst (λ (vs : List (Readied g.row.S.Denot)). AreWanted setup.scheme setup.size c.args.catalogue.now (λ n. wanted n || (c.args.number == n)) vs)
    (sym (e ∙ ap (λ (p : Readied g.row.S.Denot). c.args.self.now ++ p ∷ []) made))
    (wanted_put setup.scheme setup.size c.args.catalogue.now wanted c.args.number c.in-Some.version.now c.args.self.now none (sym c.in-Some.ensures.found) had)) c.put.ensures
