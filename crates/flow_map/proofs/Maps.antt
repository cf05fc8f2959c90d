-- What a list of flows with their values has after one of them got another value.
use Rattle.std.proofs.Common.{◌≡◌, ℕ, ◌+◌, ◌++◌, Bool, true, false, List, [], ◌∷◌, length, set, zero, suc, Some, None, refl, sym, ap, ◌∙◌, subst, arith, inl, inr}
use Rattle.std.specs.Prelude.{if◌then◌else◌, is_some, slice_get}
use Rattle.std.proofs.lemmas.Bool.{cases_Bool, true≢false}
use Rattle.five_tuple.specs.declared.Flow.{Flow}
use Rattle.connection_table.specs.Touches.{same_flow}
use Rattle.connection_table.proofs.Standing.{same_flow-true, same_flow-refl}
use Rattle.flow_map.specs.Maps.{value_of, valued}
use Rattle.flow_map.specs.PrivateMaps.{EachOnce}

-- flows that aren't one aren't one the other way round
pub not_same : (x y : Flow) → same_flow y x ≡ false → same_flow x y ≡ false
not_same x y h = elim (cases_Bool (same_flow x y)) [
  | inl same ↦ absurd (true≢false (sym (same_flow-refl x) ∙ subst (λ (z : Flow). same_flow z x ≡ false) (sym (same_flow-true x y same)) h))
  | inr other ↦ other
]

module _ {V : Type 0} where
  some_none : (v : V) → Some v ≡ None → ⊥
  some_none v h = cc

  pub value_valued : (x y : Flow) (v : V) (ps : List (Flow × V)) → value_of y (valued x v ps) ≡ (if same_flow x y then Some v else value_of y ps)
  value_valued x y v [] = refl
  value_valued x y v (p ∷ ps) = go (same_flow p.0 x) refl (value_valued x y v ps)
    where
      rest : (b c : Bool) → same_flow p.0 y ≡ b → same_flow x y ≡ c → same_flow p.0 x ≡ false → value_of y (valued x v ps) ≡ (if c then Some v else value_of y ps) →
          (if b then Some p.1 else value_of y (valued x v ps)) ≡ (if c then Some v else if b then Some p.1 else value_of y ps)
      rest true true e f n h = absurd (true≢false (sym e ∙ ap (λ (z : Flow). same_flow p.0 z) (sym (same_flow-true x y f)) ∙ n))
      rest true false e f n h = refl
      rest false true e f n h = h
      rest false false e f n h = h

      first : (c : Bool) → same_flow x y ≡ c → p.0 ≡ x → (if c then Some v else value_of y ps) ≡ (if c then Some v else if same_flow p.0 y then Some p.1 else value_of y ps)
      first true f is = refl
      first false f is = sym (ap (λ (b : Bool). if b then Some p.1 else value_of y ps) (ap (λ (z : Flow). same_flow z y) is ∙ f))

      go : (a : Bool) → same_flow p.0 x ≡ a → value_of y (valued x v ps) ≡ (if same_flow x y then Some v else value_of y ps) →
          value_of y (if a then (x, v) ∷ ps else p ∷ valued x v ps) ≡ (if same_flow x y then Some v else value_of y (p ∷ ps))
      go true e h = first (same_flow x y) refl (same_flow-true p.0 x e)
      go false e h = rest (same_flow p.0 y) (same_flow x y) refl refl e h

  pub length_valued : (x : Flow) (v : V) (ps : List (Flow × V)) → length (valued x v ps) ≡ length ps + (if is_some (value_of x ps) then 0 else 1)
  length_valued x v [] = refl
  length_valued x v (p ∷ ps) = go (same_flow p.0 x) (length_valued x v ps)
    where
      go : (a : Bool) → length (valued x v ps) ≡ length ps + (if is_some (value_of x ps) then 0 else 1) →
          length (if a then (x, v) ∷ ps else p ∷ valued x v ps) ≡ suc (length ps) + (if is_some (if a then Some p.1 else value_of x ps) then 0 else 1)
      go true h = omega arith
      go false h =
          let e : suc (length ps + (if is_some (value_of x ps) then 0 else 1)) ≡ suc (length ps) + (if is_some (value_of x ps) then 0 else 1) = omega arith in
          ap suc h ∙ e

  pub once_valued : (x : Flow) (v : V) (ps : List (Flow × V)) → EachOnce ps → EachOnce (valued x v ps)
  once_valued x v [] h = (refl, tt)
  once_valued x v (p ∷ ps) h = go (same_flow p.0 x) refl (once_valued x v ps h.1)
    where
      go : (a : Bool) → same_flow p.0 x ≡ a → EachOnce (valued x v ps) → EachOnce (if a then (x, v) ∷ ps else p ∷ valued x v ps)
      go true e k = (subst (λ (z : Flow). value_of z ps ≡ None) (same_flow-true p.0 x e) h.0, h.1)
      go false e k = (value_valued x p.0 v ps ∙ ap (λ (b : Bool). if b then Some v else value_of p.0 ps) (not_same x p.0 e) ∙ h.0, k)

  -- a flow that stands somewhere has a value
  pub stands_there : (x : Flow) (ps : List (Flow × V)) (i : ℕ) (v : V) → slice_get ps i ≡ Some (x, v) → value_of x ps ≡ None → ⊥
  stands_there x [] i v at none = cc
  stands_there x (p ∷ ps) zero v at none =
      let is : p ≡ (x, v) = cc in
      some_none p.1 (sym (ap (λ (b : Bool). if b then Some p.1 else value_of x ps) (ap (λ (q : Flow × V). same_flow q.0 x) is ∙ same_flow-refl x)) ∙ none)
  stands_there x (p ∷ ps) (suc i) v at none = go (same_flow p.0 x) none (stands_there x ps i v at)
    where
      go : (a : Bool) → (if a then Some p.1 else value_of x ps) ≡ None → (value_of x ps ≡ None → ⊥) → ⊥
      go true n k = some_none p.1 n
      go false n k = k n

  -- writing at a flow's place
  pub set_valued : (x : Flow) (v w : V) (ps : List (Flow × V)) (i : ℕ) → EachOnce ps → slice_get ps i ≡ Some (x, w) → set ps i (x, v) ≡ valued x v ps
  set_valued x v w [] i once at = absurd cc
  set_valued x v w (p ∷ ps) zero once at =
      let is : p ≡ (x, w) = cc in
      sym (ap (λ (b : Bool). if b then (x, v) ∷ ps else p ∷ valued x v ps) (ap (λ (q : Flow × V). same_flow q.0 x) is ∙ same_flow-refl x))
  set_valued x v w (p ∷ ps) (suc i) once at = go (same_flow p.0 x) refl (set_valued x v w ps i once.1 at)
    where
      go : (a : Bool) → same_flow p.0 x ≡ a → set ps i (x, v) ≡ valued x v ps → p ∷ set ps i (x, v) ≡ (if a then (x, v) ∷ ps else p ∷ valued x v ps)
      go true e h = absurd (stands_there x ps i w at (subst (λ (z : Flow). value_of z ps ≡ None) (same_flow-true p.0 x e) once.0))
      go false e h = ap (λ (l : List (Flow × V)). p ∷ l) h

  -- a flow that isn't there comes last
  pub push_valued : (x : Flow) (v : V) (ps : List (Flow × V)) → value_of x ps ≡ None → ps ++ (x, v) ∷ [] ≡ valued x v ps
  push_valued x v [] h = refl
  push_valued x v (p ∷ ps) h = go (same_flow p.0 x) h (push_valued x v ps)
    where
      go : (a : Bool) → (if a then Some p.1 else value_of x ps) ≡ None → (value_of x ps ≡ None → ps ++ (x, v) ∷ [] ≡ valued x v ps) → p ∷ (ps ++ (x, v) ∷ []) ≡ (if a then (x, v) ∷ ps else p ∷ valued x v ps)
      go true n k = absurd (some_none p.1 n)
      go false n k = ap (λ (l : List (Flow × V)). p ∷ l) (k n)

  -- the value of a flow that stands somewhere
  pub value_there : (x : Flow) (w : V) (ps : List (Flow × V)) (i : ℕ) → EachOnce ps → slice_get ps i ≡ Some (x, w) → value_of x ps ≡ Some w
  value_there x w [] i once at = absurd cc
  value_there x w (p ∷ ps) zero once at =
      let is : p ≡ (x, w) = cc in
      ap (λ (b : Bool). if b then Some p.1 else value_of x ps) (ap (λ (q : Flow × V). same_flow q.0 x) is ∙ same_flow-refl x) ∙ ap (λ (q : Flow × V). Some q.1) is
  value_there x w (p ∷ ps) (suc i) once at = go (same_flow p.0 x) refl (value_there x w ps i once.1 at)
    where
      go : (a : Bool) → same_flow p.0 x ≡ a → value_of x ps ≡ Some w → (if a then Some p.1 else value_of x ps) ≡ Some w
      go true e h = absurd (some_none w (sym h ∙ subst (λ (z : Flow). value_of z ps ≡ None) (same_flow-true p.0 x e) once.0))
      go false e h = h

  -- a flow that stands nowhere has no value
  pub none_there : (x : Flow) (ps : List (Flow × V)) → ((i : ℕ) (p : Flow × V) → slice_get ps i ≡ Some p → same_flow p.0 x ≡ false) → value_of x ps ≡ None
  none_there x [] h = refl
  none_there x (p ∷ ps) h = ap (λ (b : Bool). if b then Some p.1 else value_of x ps) (h 0 p refl) ∙ none_there x ps (λ i q at. h (suc i) q at)
