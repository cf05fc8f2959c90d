use Rattle.std.proofs.Common.{arith, ◌≡◌, ℕ, List, map, sym, ap, ◌∙◌, subst}
use Rattle.std.specs.Arc.{arc_value}
use Rattle.std.specs.HashMap.{get}
use Rattle.std.proofs.lemmas.Grind.{common_steps}
use Rattle.pool_versions.specs.Same.{Parts, parts_of}
use Rattle.pool_versions.specs.Pool.{same_key}
use Rattle.selection.specs.Places.{ArePlaced}
use Rattle.selection.specs.Readied.{Readied, ReadiedService, readied_of}
use Rattle.selection.proofs.Versions.{AreFor_readied, ups_for_readied}
use Rattle.selection.proofs.Sources.{readied_same}
use Rattle.selection.proofs.prepared.PreparedVersion.make_from.Goals as goal

abbrev made : {S : Type 0} → S → ℕ → ℕ → List (ReadiedService S) → List Parts → Readied S
made scheme size number ss ps = record { scheme = scheme; size = size; number = number; services = ss; source = ps }

pub invariant_of-result : goal.invariant_of-result
invariant_of-result g c =
    let e : c.loop-service.services.items ≡ map (readied_of c.args.scheme.now c.args.size) c.args.version.now.services.items = grind (arith, common_steps, c.loop-service.invariant, c.loop-service-test.false) in (
      rw e (AreFor_readied c.args.scheme.now c.args.size c.args.version.now.services.items),
      subst (λ (ss : List (ReadiedService g.row.S.Denot)). ArePlaced (get same_key c.in_ok-places.places) ss) c.as_slice-2.ensures.value c.in_ok-places.ensures,
      ap (λ (ss : List (ReadiedService g.row.S.Denot)). made c.args.scheme.now c.args.size c.args.version.now.number ss (map parts_of (arc_value c.in_ok-shared_copy.field-0).services.items)) e
          ∙ ap (λ (ps : List Parts). made c.args.scheme.now c.args.size c.args.version.now.number (map (readied_of c.args.scheme.now c.args.size) c.args.version.now.services.items) ps) c.in_ok-shared_copy.ensures.services
          ∙ sym (readied_same c.args.scheme.now c.args.size (arc_value c.in_ok-shared_copy.field-0) c.args.version.now c.in_ok-shared_copy.ensures),
    )

pub returns-clause-ups : goal.returns-clause-ups
returns-clause-ups g c x =
    let e : c.loop-service.services.items ≡ map (readied_of c.args.scheme.now c.args.size) c.args.version.now.services.items = grind (arith, common_steps, c.loop-service.invariant, c.loop-service-test.false) in
    rw e (ups_for_readied c.args.scheme.now c.args.size x c.args.version.now)

pub returns-clause-made : goal.returns-clause-made
returns-clause-made g c =
    let e : c.loop-service.services.items ≡ map (readied_of c.args.scheme.now c.args.size) c.args.version.now.services.items = grind (arith, common_steps, c.loop-service.invariant, c.loop-service-test.false) in
    ap (λ (ss : List (ReadiedService g.row.S.Denot)). made c.args.scheme.now c.args.size c.args.version.now.number ss (map parts_of (arc_value c.in_ok-shared_copy.field-0).services.items)) e
    ∙ ap (λ (ps : List Parts). made c.args.scheme.now c.args.size c.args.version.now.number (map (readied_of c.args.scheme.now c.args.size) c.args.version.now.services.items) ps) c.in_ok-shared_copy.ensures.services
