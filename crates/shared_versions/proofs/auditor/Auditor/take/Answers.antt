use Rattle.std.proofs.Common.{◌≡◌, ◌∷◌, ℕ, false, sym, ap, ◌∙◌, subst}
use Rattle.std.specs.Prelude.{is_some}
use Rattle.selection.specs.Readied.{Readied, readied_version}
use Rattle.cluster_node.specs.Rules.{Rules}
use Rattle.cluster_node.specs.Record.{prepared_at}
use Rattle.cluster_core.specs.Setups.{rules_for}
use Rattle.cluster_core.specs.Runs.{AreGood}
use Rattle.shared_versions.proofs.Kept.{some_copied, good_put, good_after}
use Rattle.shared_versions.proofs.auditor.Auditor.take.Goals as goal

pub invariant_of-self : goal.invariant_of-self
invariant_of-self g c =
    let setup = c.self.inside.setup.now in
    let pools = c.self.inside.catalogue.now in
    let version = c.in-Some-get.version.now in
    let rules : Rules = rules_for (λ s z. g.S.Scheme.pick s z) (λ h. g.H.FlowHash.plain h) setup pools in
    let made : c.in-Ok.prepared ≡ readied_version setup.scheme setup.size version =
    c.in-Ok.ensures.made ∙ ap (λ (s : g.row.S.Denot). readied_version s c.size.result version) c.scheme.ensures ∙ ap (λ (z : ℕ). readied_version setup.scheme z version) c.size.ensures in
    let none : is_some (prepared_at c.args.number c.self.inside.versions) ≡ false =
    sym (c.is_some.ensures ∙ some_copied c.find-2.result ∙ ap (λ o. is_some o) c.find-2.ensures) ∙ c.if-is_some.false in
    let more : AreGood (λ s z. g.S.Scheme.pick s z) rules (c.in-Ok.prepared ∷ c.self.inside.versions) =
    subst (λ (p : Readied g.row.S.Denot). AreGood (λ s z. g.S.Scheme.pick s z) rules (p ∷ c.self.inside.versions)) (sym made)
    (good_put (λ s z. g.S.Scheme.pick s z) (λ h. g.H.FlowHash.plain h) setup pools c.args.number version c.self.inside.versions (sym c.in-Some-get.ensures.found) none c.self.invariant.1) in
    (c.self.invariant.0, good_after (λ s z. g.S.Scheme.pick s z) rules c.put.result c.in-Ok.prepared c.self.inside.versions c.put.new.self c.put.ensures.ok c.put.ensures.err c.self.invariant.1 more)
