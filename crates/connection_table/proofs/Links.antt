-- The order of two flows doesn't matter where they are compared.
use Rattle.std.proofs.Common.{◌≡◌, Bool, true, false, refl, sym, ◌∙◌, subst}
use Rattle.five_tuple.specs.declared.Flow.{Flow}
use Rattle.connection_table.specs.Touches.{same_flow}
use Rattle.connection_table.proofs.Standing.{same_flow-true, same_flow-refl}

pub same_sym : (x y : Flow) → same_flow x y ≡ same_flow y x
same_sym x y = go (same_flow x y) (same_flow y x) refl refl
  where
    go : (b c : Bool) → same_flow x y ≡ b → same_flow y x ≡ c → b ≡ c
    go true true h k = refl
    go false false h k = refl
    go true false h k = sym (subst (λ (z : Flow). same_flow z x ≡ true) (same_flow-true x y h) (same_flow-refl x)) ∙ k
    go false true h k = sym h ∙ subst (λ (z : Flow). same_flow z y ≡ true) (same_flow-true y x k) (same_flow-refl y)
