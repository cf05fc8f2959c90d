-- Pairs in the order of their places are a table's touches.
use Rattle.std.proofs.Common.{◌≡◌, ◌≢◌, ℕ, ◌+◌, ◌-◌, ◌<◌, ◌≤◌, ◌==◌, ◌++◌, Bool, true, false, not, filter, List, [], ◌∷◌, length, get_or, set, take, zero, suc, Some, None, refl, sym, ap, ◌∙◌, subst, arith, ◌⊎◌, inl, inr}
use Rattle.std.specs.Prelude.{if◌then◌else◌}
use Rattle.std.specs.Prelude.{eqb}
use Rattle.std.specs.List.{All, AllByRecursion, Contains, IsDistinct}
use Rattle.std.proofs.lemmas.List.Elements.{All-head, All-tail}
use Rattle.std.proofs.lemmas.Map.Keys.{IsDistinct-head, IsDistinct-tail}
use Rattle.std.proofs.lemmas.Bool.{cases_Bool, cases_eq, eq-eqb, eqb-false}
use Rattle.std.proofs.lemmas.Bool.Decides.{nat_tests}
use Rattle.std.proofs.lemmas.List.{get_or_append_left, get_or-set_other, get_or-set_same, get_or-append_right, length-map, take-map}
use Rattle.five_tuple.specs.declared.Flow.{Flow}
use Rattle.connection_table.specs.declared.table.Entry.{Entry}
use Rattle.connection_table.specs.Touches.{same_flow, Touch, last_touch, without}
use Rattle.connection_table.specs.Tables.{EachFlowOnce}
use Rattle.connection_table.specs.Picked.{no_flow, no_entry, pair_at, picked}
use Rattle.connection_table.proofs.Standing.{same_flow-true}

-- each place is from 1 to n
abbrev pub AreWithin : ℕ → List ℕ → Type 0
AreWithin n [] = Unit {0}
AreWithin n (p ∷ ps) = (0 < p) × (p ≤ n) × AreWithin n ps

-- a place isn't among others
abbrev pub IsApart : ℕ → List ℕ → Type 0
IsApart p [] = Unit {0}
IsApart p (q ∷ qs) = (q ≢ p) × IsApart p qs

abbrev pub EachOnce : List ℕ → Type 0
EachOnce [] = Unit {0}
EachOnce (p ∷ ps) = IsApart p ps × EachOnce ps

abbrev pub IsIn : ℕ → List ℕ → Type 0
IsIn p [] = ⊥
IsIn p (q ∷ qs) = (q ≡ p) ⊎ IsIn p qs

-- the places but one
abbrev pub others : ℕ → List ℕ → List ℕ
others p qs = filter (λ q. not (q == p)) qs

eqb_false : (q p : ℕ) → q ≢ p → (q == p) ≡ false
eqb_false q p apart = grind (arith, nat_tests)

some_none : (e : Entry) → Some e ≡ None → ⊥
some_none e h = cc

pub picked_push : (ps : List Touch) (t : Touch) (order : List ℕ) → AreWithin (length ps) order → picked (ps ++ t ∷ []) order ≡ picked ps order
picked_push ps t [] h = refl
picked_push ps t (p ∷ order) h =
    let here : get_or (ps ++ t ∷ []) (p - 1) (no_flow, no_entry) ≡ get_or ps (p - 1) (no_flow, no_entry) = get_or_append_left ps (t ∷ []) (no_flow, no_entry) (p - 1) (omega (arith, h.0, h.1)) in
    ap (λ (u : Touch). u ∷ picked (ps ++ t ∷ []) order) here ∙ ap (λ (l : List Touch). pair_at ps p ∷ l) (picked_push ps t order h.2)

pub picked_set : (ps : List Touch) (p : ℕ) (t : Touch) (order : List ℕ) → 0 < p → AreWithin (length ps) order → IsApart p order → picked (set ps (p - 1) t) order ≡ picked ps order
picked_set ps p t [] some h apart = refl
picked_set ps p t (q ∷ order) some h apart =
    let here : get_or (set ps (p - 1) t) (q - 1) (no_flow, no_entry) ≡ get_or ps (q - 1) (no_flow, no_entry) = get_or-set_other ps (p - 1) (q - 1) t (no_flow, no_entry) (λ e. apart.0 (omega (arith, e, some, h.0))) in
    ap (λ (u : Touch). u ∷ picked (set ps (p - 1) t) order) here ∙ ap (λ (l : List Touch). pair_at ps q ∷ l) (picked_set ps p t order some h.2 apart.1)

-- the entry of a place is that of its flow
pub last_picked : (ps : List Touch) (p : ℕ) (x : Flow) (order : List ℕ) → EachFlowOnce (picked ps order) → IsIn p order → same_flow (pair_at ps p).0 x ≡ true → last_touch x (picked ps order) ≡ Some (pair_at ps p).1
last_picked ps p x [] once inside same = absurd inside
last_picked ps p x (q ∷ order) once inside same = go inside (cases_Bool (same_flow (pair_at ps q).0 x)) (λ later. last_picked ps p x order once.1 later same)
  where
    found : same_flow (pair_at ps q).0 x ≡ true → last_touch x (picked ps (q ∷ order)) ≡ Some (pair_at ps q).1
    found e = ap (λ (b : Bool). if b then Some (pair_at ps q).1 else last_touch x (picked ps order)) e

    go : (q ≡ p) ⊎ IsIn p order → (same_flow (pair_at ps q).0 x ≡ true) ⊎ (same_flow (pair_at ps q).0 x ≡ false) → (IsIn p order → last_touch x (picked ps order) ≡ Some (pair_at ps p).1) → last_touch x (picked ps (q ∷ order)) ≡ Some (pair_at ps p).1
    go (inl e) c k = subst (λ (r : ℕ). last_touch x (picked ps (q ∷ order)) ≡ Some (pair_at ps r).1) e (found (subst (λ (r : ℕ). same_flow (pair_at ps r).0 x ≡ true) (sym e) same))
    go (inr later) (inl twice) k =
        let gone : last_touch x (picked ps order) ≡ None = subst (λ (y : Flow). last_touch y (picked ps order) ≡ None) (same_flow-true (pair_at ps q).0 x twice) once.0 in
        absurd (some_none (pair_at ps p).1 (sym (k later) ∙ gone))
    go (inr later) (inr other) k = ap (λ (b : Bool). if b then Some (pair_at ps q).1 else last_touch x (picked ps order)) other ∙ k later

-- a flow that no place has has no entry
pub none_picked : (ps : List Touch) (x : Flow) (order : List ℕ) → ((p : ℕ) → IsIn p order → same_flow (pair_at ps p).0 x ≡ false) → last_touch x (picked ps order) ≡ None
none_picked ps x [] h = refl
none_picked ps x (q ∷ order) h =
    ap (λ (b : Bool). if b then Some (pair_at ps q).1 else last_touch x (picked ps order)) (h q (inl refl)) ∙ none_picked ps x order (λ p later. h p (inr later))

apart_in : (p r : ℕ) (rest : List ℕ) → IsApart r rest → IsIn p rest → r ≢ p
apart_in p r [] h inside = absurd inside
apart_in p r (s ∷ rest) h (inl e) = λ k. h.0 (e ∙ sym k)
apart_in p r (s ∷ rest) h (inr more) = apart_in p r rest h.1 more

others_apart : (p : ℕ) (order : List ℕ) → IsApart p order → others p order ≡ order
others_apart p [] h = refl
others_apart p (q ∷ order) h = ap (λ (b : Bool). if not b then q ∷ others p order else others p order) (eqb_false q p h.0) ∙ ap (λ (l : List ℕ). q ∷ l) (others_apart p order h.1)

pub apart_from_others : (p : ℕ) (order : List ℕ) → IsApart p (others p order)
apart_from_others p [] = tt
apart_from_others p (q ∷ order) = elim (cases_eq q p) [
  | inl same ↦ subst (λ (b : Bool). IsApart p (if not b then q ∷ others p order else others p order)) (sym (eq-eqb q p same)) (apart_from_others p order)
  | inr other ↦ subst (λ (b : Bool). IsApart p (if not b then q ∷ others p order else others p order)) (sym (eqb_false q p other)) (other, apart_from_others p order)
]

pub others_within : (n p : ℕ) (order : List ℕ) → AreWithin n order → AreWithin n (others p order)
others_within n p [] h = tt
others_within n p (q ∷ order) h = elim (cases_Bool (q == p)) [
  | inl same ↦ subst (λ (b : Bool). AreWithin n (if not b then q ∷ others p order else others p order)) (sym same) (others_within n p order h.2)
  | inr other ↦ subst (λ (b : Bool). AreWithin n (if not b then q ∷ others p order else others p order)) (sym other) (h.0, h.1, others_within n p order h.2)
]

-- the pairs without a place's are those without its flow
pub picked_others : (ps : List Touch) (p : ℕ) (x : Flow) (order : List ℕ) → EachFlowOnce (picked ps order) → EachOnce order → IsIn p order → same_flow (pair_at ps p).0 x ≡ true →
    picked ps (others p order) ≡ without x (picked ps order)
picked_others ps p x [] flows places inside same = absurd inside
picked_others ps p x (q ∷ order) flows places inside same = go inside (λ more. picked_others ps p x order flows.1 places.1 more same)
  where
    here : q ≡ p → picked ps (others p (q ∷ order)) ≡ without x (picked ps (q ∷ order))
    here e =
        let hit : same_flow (pair_at ps q).0 x ≡ true = subst (λ (r : ℕ). same_flow (pair_at ps r).0 x ≡ true) (sym e) same in
        let kept : others p (q ∷ order) ≡ order = ap (λ (b : Bool). if not b then q ∷ others p order else others p order) (eq-eqb q p e) ∙ others_apart p order (subst (λ (r : ℕ). IsApart r order) e places.0) in
        ap (picked ps) kept ∙ sym (ap (λ (b : Bool). if b then picked ps order else pair_at ps q ∷ without x (picked ps order)) hit)

    later : IsIn p order → picked ps (others p order) ≡ without x (picked ps order) → picked ps (others p (q ∷ order)) ≡ without x (picked ps (q ∷ order))
    later inside k =
        let there : last_touch x (picked ps order) ≡ Some (pair_at ps p).1 = last_picked ps p x order flows.1 inside same in
        let miss : same_flow (pair_at ps q).0 x ≡ false = elim (cases_Bool (same_flow (pair_at ps q).0 x)) [
          | inl twice ↦ absurd (some_none (pair_at ps p).1 (sym there ∙ subst (λ (y : Flow). last_touch y (picked ps order) ≡ None) (same_flow-true (pair_at ps q).0 x twice) flows.0))
          | inr other ↦ other
        ] in
        let kept : others p (q ∷ order) ≡ q ∷ others p order = ap (λ (b : Bool). if not b then q ∷ others p order else others p order) (eqb_false q p (apart_in p q order places.0 inside)) in
        ap (picked ps) kept ∙ ap (λ (l : List Touch). pair_at ps q ∷ l) k
        ∙ sym (ap (λ (b : Bool). if b then picked ps order else pair_at ps q ∷ without x (picked ps order)) miss)

    go : (q ≡ p) ⊎ IsIn p order → (IsIn p order → picked ps (others p order) ≡ without x (picked ps order)) → picked ps (others p (q ∷ order)) ≡ without x (picked ps (q ∷ order))
    go (inl e) k = here e
    go (inr more) k = later more (k more)

in_at : (d k : ℕ) (order : List ℕ) → k < length order → IsIn (get_or order k d) order
in_at d k [] h = absurd (omega arith)
in_at d zero (q ∷ order) h = inl refl
in_at d (suc k) (q ∷ order) h = inr (in_at d k order (omega arith))

-- the places but the last
pub but_last : (p n : ℕ) (order : List ℕ) → EachOnce order → suc n ≡ length order → p ≡ get_or order n 0 → others p order ≡ take n order
but_last p n [] once long last = absurd (omega arith)
but_last p zero (q ∷ []) once long last = ap (λ (b : Bool). if not b then q ∷ others p [] else others p []) (eq-eqb q p (sym last))
but_last p zero (q ∷ r ∷ order) once long last = absurd (omega arith)
but_last p (suc n) (q ∷ order) once long last =
    let inside : IsIn p order = subst (λ (r : ℕ). IsIn r order) (sym last) (in_at 0 n order (omega (arith, long))) in
    ap (λ (b : Bool). if not b then q ∷ others p order else others p order) (eqb_false q p (apart_in p q order once.0 inside))
    ∙ ap (λ (l : List ℕ). q ∷ l) (but_last p n order once.1 (omega (arith, long)) last)

pub length_picked : (ps : List Touch) (order : List ℕ) → length (picked ps order) ≡ length order
length_picked ps order = length-map order (λ (p : ℕ). pair_at ps p)

-- the pairs without the last one
pub picked_but_last : (ps : List Touch) (p n : ℕ) (order : List ℕ) → EachOnce order → suc n ≡ length order → p ≡ get_or order n 0 → picked ps (others p order) ≡ take n (picked ps order)
picked_but_last ps p n order once long last = ap (picked ps) (but_last p n order once long last) ∙ sym (take-map (λ (q : ℕ). pair_at ps q) n order)

-- a pair that is written at a place which comes first
pub picked_first : (ps : List Touch) (p : ℕ) (t : Touch) (order : List ℕ) → 0 < p → p ≤ length ps → AreWithin (length ps) order → picked (set ps (p - 1) t) (p ∷ others p order) ≡ t ∷ picked ps (others p order)
picked_first ps p t order some low h =
    let here : pair_at (set ps (p - 1) t) p ≡ t = get_or-set_same ps (p - 1) t (no_flow, no_entry) (omega (arith, some, low)) in
    ap (λ (u : Touch). u ∷ picked (set ps (p - 1) t) (others p order)) here
    ∙ ap (λ (l : List Touch). t ∷ l) (picked_set ps p t (others p order) some (others_within (length ps) p order h) (apart_from_others p order))

-- a pair at a new place
pub picked_new : (ps : List Touch) (n : ℕ) (t : Touch) (order : List ℕ) → n ≡ length ps → AreWithin n order → picked (ps ++ t ∷ []) ((n + 1) ∷ order) ≡ t ∷ picked ps order
picked_new ps n t order long h =
    let zeroth : n + 1 - 1 - n ≡ 0 = omega arith in
    let here : pair_at (ps ++ t ∷ []) (n + 1) ≡ t = get_or-append_right ps (t ∷ []) n (n + 1 - 1) (no_flow, no_entry) (sym long) (omega arith) ∙ ap (λ (k : ℕ). get_or (t ∷ []) k (no_flow, no_entry)) zeroth in
    ap (λ (u : Touch). u ∷ picked (ps ++ t ∷ []) order) here
    ∙ ap (λ (l : List Touch). t ∷ l) (picked_push ps t order (subst (λ (k : ℕ). AreWithin k order) long h))

-- the places of an order, in the forms of above
pub order_within : (n : ℕ) (order : List ℕ) → All (λ p. (0 < p) × (p ≤ n)) order → AreWithin n order
order_within n [] h = tt
order_within n (p ∷ order) h =
    let here : (0 < p) × (p ≤ n) = All-head (λ q. (0 < q) × (q ≤ n)) p order h in
    (here.0, here.1, order_within n order (All-tail (λ q. (0 < q) × (q ≤ n)) p order h))

order_apart : (p : ℕ) (order : List ℕ) → AllByRecursion (λ q. eqb p q ≡ false) order → IsApart p order
order_apart p [] h = tt
order_apart p (q ∷ order) h = ((λ e. eqb-false p q h.0 (sym e)), order_apart p order h.1)

pub order_once : (order : List ℕ) → IsDistinct eqb order → EachOnce order
order_once [] h = tt
order_once (p ∷ order) h = (order_apart p order (IsDistinct-head eqb p order h), order_once order (IsDistinct-tail eqb p order h))

pub order_in : (p : ℕ) (order : List ℕ) → Contains order p → IsIn p order
order_in p order h = subst (λ (q : ℕ). IsIn q order) h.2 (in_at p h.0 order h.1)
