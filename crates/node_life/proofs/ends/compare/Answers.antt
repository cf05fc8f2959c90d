use Rattle.std.proofs.Common.{List, refl, sym, ◌∙◌, subst}
use Rattle.std.specs.Prelude.{All}
use Rattle.std.proofs.lemmas.Bool.{true≢false}
use Rattle.cluster_core.specs.Setups.{rules_for}
use Rattle.thread_records.specs.Works.{WorkView, IsOf, IsWorkerOf}
use Rattle.node_life.proofs.ends.compare.Goals as goal

pub returns-then-not-are_of-clause-foreign : goal.returns-then-not-are_of-clause-foreign
returns-then-not-are_of-clause-foreign g c = (
  refl,
  (λ all. true≢false (sym (c.are_of.ensures.exact.1 (subst (λ (ws : List (WorkView g.row.S.Denot)). All (IsWorkerOf (λ x y. g.S.PartialEq.eq x y) c.args.setup.now c.args.catalogue.now) ws) (sym c.as_slice.ensures.value) all)) ∙ c.if-not-are_of.true)),
)

pub returns-clause-of : goal.returns-clause-of
returns-clause-of g c = subst (λ (ws : List (WorkView g.row.S.Denot)). All (λ w. IsOf (λ s z. g.S.Scheme.pick s z) (rules_for (λ s z. g.S.Scheme.pick s z) (λ h. g.H.FlowHash.plain h) c.args.setup.now c.args.catalogue.now) w) ws) c.as_slice.ensures.value (c.are_of.ensures.of c.if-not-are_of.false)

pub returns-clause-own : goal.returns-clause-own
returns-clause-own g c = subst (λ (ws : List (WorkView g.row.S.Denot)). All (IsWorkerOf (λ x y. g.S.PartialEq.eq x y) c.args.setup.now c.args.catalogue.now) ws) c.as_slice.ensures.value (c.are_of.ensures.exact.0 c.if-not-are_of.false)
