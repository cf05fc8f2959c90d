use Rattle.std.proofs.Common.{ap, refl, sym, ◌∙◌}
use Rattle.selection.specs.Shared.{Chosen}
use Rattle.selection.proofs.Sharing.{stands}
use Rattle.selection.proofs.choices.Choices.is_of.Goals as goal

pub returns-then-is_for : goal.returns-then-is_for
returns-then-is_for g c same =
    stands (λ s z u p. g.S.Scheme.is_prepared s z u p) c.args.self.now c.args.scheme.now c.args.size c.args.ups.now
    (λ z u p. g.met.S.Scheme.prepared_respects_eq c.args.self.now.scheme c.args.scheme.now (c.if-is_for.ensures.scheme refl) z u p)
    (c.if-is_for.ensures.size refl) (ap (λ (k : Chosen g.row.S.Denot). k.ups) (sym c.self.view_is) ∙ c.is.ensures same)
