-- A split is of two versions that pick different backends.
use Rattle.std.proofs.Common.{◌≡◌, ℕ, Bool, true, false, Option, Some, None, refl, sym, ap, ◌∙◌}
use Rattle.std.specs.Prelude.{if◌then◌else◌}
use Rattle.std.proofs.lemmas.Bool.{false≢true}
use Rattle.five_tuple.specs.declared.Flow.{Flow}
use Rattle.pool_versions.specs.declared.backend.Backend.{Backend}
use Rattle.connection_table.specs.Touches.{same_flow}
use Rattle.selection.specs.Readied.{same_backend}
use Rattle.connection_table.proofs.Standing.{same_flow-true}
use Rattle.std.specs.Prelude.{◌&&◌, ◌==◌}
use Rattle.std.specs.Cmp.Lexicographic.{nat_list_eq_equiv}
use Rattle.std.proofs.lemmas.Bool.{eq-eqb}
use Rattle.cluster_node.specs.Rules.{Rules}
use Rattle.cluster_core.specs.declared.explaining.Verdict.TheVariants.{OtherFlow, Same, Split}
use Rattle.cluster_core.specs.Headline.{pick_under}
use Rattle.cluster_core.specs.Explain.{Send, explained, PickedSend, Explains}

same_backend-refl : (a : Backend) → same_backend a a ≡ true
same_backend-refl a = ap (λ (b : Bool). b && (a.addr == a.addr)) (nat_list_eq_equiv.refl a.name) ∙ eq-eqb a.addr a.addr refl

pub differ : (a b : Backend) → same_backend a b ≡ false → a ≡ b → ⊥
differ a b h e = false≢true (sym h ∙ ap (λ (x : Backend). same_backend a x) (sym e) ∙ same_backend-refl a)

pub explains : (rules : Rules) (slot : Flow → ℕ) (a b : Option Send) → PickedSend rules a → PickedSend rules b → Explains rules slot a (explained slot a b)
explains rules slot None b p q = tt
explains rules slot (Some a) None p q = tt
explains rules slot (Some a) (Some b) p q = by_flow (same_flow a.flow b.flow) refl
  where
    by_backend : a.flow ≡ b.flow → (d : Bool) → same_backend a.backend b.backend ≡ d → Explains rules slot (Some a) (if d then Same else Split (slot a.flow) a.origin b.origin a.backend b.backend)
    by_backend e true f = tt
    by_backend e false f = (refl, p, ap (λ (x : Flow). pick_under rules b.origin x) e ∙ q, differ a.backend b.backend f)

    by_flow : (d : Bool) → same_flow a.flow b.flow ≡ d → Explains rules slot (Some a) (if d then (if same_backend a.backend b.backend then Same else Split (slot a.flow) a.origin b.origin a.backend b.backend) else OtherFlow)
    by_flow true f = by_backend (same_flow-true a.flow b.flow f) (same_backend a.backend b.backend) refl
    by_flow false f = tt
