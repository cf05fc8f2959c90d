-- Walks along chains, over any function from a place to the next.
use Rattle.std.proofs.Common.{◌≡◌, ℕ, zero, suc, ◌+◌, ◌<◌, ◌≤◌, inl, inr, ⊎_elim, refl, sym, ◌∙◌, ap, subst, arith, true, false, List, [], ◌∷◌, length, eqb}
use Rattle.std.specs.List.{IsDistinct, AllByRecursion, list_any}
use Rattle.std.proofs.lemmas.Bool.Decides.{eqb_tells}
use Rattle.std.proofs.lemmas.Map.Steps.{length-le_from_distinct_below}
use Rattle.place_buckets.specs.Groups.{IsAmong, Linked, steps}

-- a walk whose places keep their next is the same
pub frame : (next then : ℕ → ℕ) (first : ℕ) (ps : List ℕ) → ((p : ℕ) → 0 < p → IsAmong p ps → then p ≡ next p) → Linked next first ps → Linked then first ps
frame next then first [] same h = h
frame next then first (p ∷ ps) same h =
    let rest : Linked then (next p) ps = frame next then (next p) ps (λ q pos m. same q pos (inr m)) h.2 in
    (h.0, h.1, subst (λ (x : ℕ). Linked then x ps) (sym (same p h.1 (inl refl))) rest)

-- from one place there is one walk
pub same_walk : (next : ℕ → ℕ) (first : ℕ) (ps qs : List ℕ) → Linked next first ps → Linked next first qs → ps ≡ qs
same_walk next first [] [] a b = refl
same_walk next first [] (q ∷ qs) a b = absurd (omega (arith, b.0, b.1))
same_walk next first (p ∷ ps) [] a b = absurd (omega (arith, a.0, a.1))
same_walk next first (p ∷ ps) (q ∷ qs) a b =
    let e : q ≡ p = sym b.0 ∙ a.0 in
    let rest : Linked next (next p) qs = subst (λ (x : ℕ). Linked next (next x) qs) e b.2 in
    let tail : ps ≡ qs = same_walk next (next p) ps qs a.2 rest in
    cc

-- what a walk passes from one of its places on
pub record Onward (next : ℕ → ℕ) (place long : ℕ) : Type 0 where
  pub rest : List ℕ
  pub linked : Linked next place (place ∷ rest)
  pub shorter : length rest < long

pub onward : (next : ℕ → ℕ) (first place : ℕ) (ps : List ℕ) → Linked next first ps → IsAmong place ps → Onward next place (length ps)
onward next first place [] h m = absurd m
onward next first place (p ∷ ps) h m =
    ⊎_elim (λ (e : place ≡ p).
    record { rest = ps; linked = (refl, subst (λ (x : ℕ). 0 < x) (sym e) h.1, subst (λ (x : ℕ). Linked next (next x) ps) (sym e) h.2); shorter = omega arith })
    (λ (n : IsAmong place ps).
    let r = onward next (next p) place ps h.2 n in record { rest = r.rest; linked = r.linked; shorter = let s = r.shorter in omega arith })
    m

-- a walk passes no place twice
pub once : (next : ℕ → ℕ) (place : ℕ) (ps : List ℕ) → Linked next place (place ∷ ps) → IsAmong place ps → ⊥
once next place ps h m =
    let r = onward next (next place) place ps h.2 m in
    let e : place ∷ ps ≡ place ∷ r.rest = same_walk next place (place ∷ ps) (place ∷ r.rest) h r.linked in
    let long : suc (length ps) ≡ suc (length r.rest) = ap length e in
    let s : length r.rest < length ps = r.shorter in
    omega arith

-- the place after one of a walk's places is passed too
pub next_among : (next : ℕ → ℕ) (first place : ℕ) (ps : List ℕ) → Linked next first ps → IsAmong place ps → 0 < next place → IsAmong (next place) ps
next_among next first place [] h m pos = absurd m
next_among next first place (p ∷ ps) h m pos =
    ⊎_elim (λ (e : place ≡ p). inr (begins next (next place) ps (subst (λ (x : ℕ). Linked next (next x) ps) (sym e) h.2) pos))
    (λ (n : IsAmong place ps). inr (next_among next (next p) place ps h.2 n pos))
    m
  where
    begins : (next : ℕ → ℕ) (first : ℕ) (ps : List ℕ) → Linked next first ps → 0 < first → IsAmong first ps
    begins next first [] h pos = absurd (omega arith)
    begins next first (p ∷ ps) h pos = inl h.0

-- a walk's places are above 0
pub above : (next : ℕ → ℕ) (first place : ℕ) (ps : List ℕ) → Linked next first ps → IsAmong place ps → 0 < place
above next first place [] h m = absurd m
above next first place (p ∷ ps) h m =
    ⊎_elim (λ (e : place ≡ p). subst (λ (x : ℕ). 0 < x) (sym e) h.1) (λ (n : IsAmong place ps). above next (next p) place ps h.2 n) m

none_equal : (p : ℕ) (ps : List ℕ) → (IsAmong p ps → ⊥) → AllByRecursion (λ y. eqb p y ≡ false) ps
none_equal p [] h = tt
none_equal p (q ∷ qs) h = (
  ⊎_elim (λ (yes : (eqb p q ≡ true) × (p ≡ q)). absurd (h (inl yes.1))) (λ (no : (eqb p q ≡ false) × (p ≡ q → ⊥)). no.0) (eqb_tells p q),
  none_equal p qs (λ m. h (inr m)),
)

distinct : (next : ℕ → ℕ) (first : ℕ) (ps : List ℕ) → Linked next first ps → IsDistinct eqb ps
unfolding IsDistinct
distinct next first [] h = tt
distinct next first (p ∷ ps) h = (none_equal p ps (once next p ps (refl, h.1, h.2)), distinct next (next p) ps h.2)

is_among : (p : ℕ) (ps : List ℕ) → list_any (eqb p) ps ≡ true → IsAmong p ps
is_among p [] h = absurd (cc h)
is_among p (q ∷ qs) h =
    ⊎_elim (λ (yes : (eqb p q ≡ true) × (p ≡ q)). inl yes.1)
    (λ (no : (eqb p q ≡ false) × (p ≡ q → ⊥)). inr (is_among p qs (rw no.0 at h))) (eqb_tells p q)

-- a walk over numbers up to n passes few
pub short : (next : ℕ → ℕ) (n first : ℕ) (ps : List ℕ) → Linked next first ps → ((p : ℕ) → IsAmong p ps → p ≤ n) → length ps ≤ n + 1
short next n first ps h low =
    length-le_from_distinct_below ps (n + 1) (distinct next first ps h) (λ q any. let l : q ≤ n = low q (is_among q ps any) in omega arith)

pub steps_are : (next : ℕ → ℕ) (fuel first : ℕ) (ps : List ℕ) → Linked next first ps → length ps ≤ fuel → steps fuel next first ≡ length ps
unfolding steps
steps_are next zero first [] h few = refl
steps_are next zero first (p ∷ ps) h few = absurd (omega arith)
steps_are next (suc fuel) zero [] h few = refl
steps_are next (suc fuel) (suc first) [] h few = absurd (omega arith)
steps_are next (suc fuel) zero (p ∷ ps) h few = absurd (omega (arith, h.0, h.1))
steps_are next (suc fuel) (suc first) (p ∷ ps) h few =
    ap suc (steps_are next fuel (next (suc first)) ps (subst (λ (x : ℕ). Linked next (next x) ps) (sym h.0) h.2) (omega arith))

-- one step on, fewer places are left
pub falls : (next : ℕ → ℕ) (n first p : ℕ) (ps : List ℕ) → Linked next first (p ∷ ps) → ((q : ℕ) → IsAmong q (p ∷ ps) → q ≤ n) → steps (n + 1) next (next first) < steps (n + 1) next first
falls next n first p ps h low =
    let few : suc (length ps) ≤ n + 1 = short next n first (p ∷ ps) h low in
    let here : steps (n + 1) next first ≡ suc (length ps) = steps_are next (n + 1) first (p ∷ ps) h few in
    let there : steps (n + 1) next (next first) ≡ length ps = steps_are next (n + 1) (next first) ps (subst (λ (x : ℕ). Linked next (next x) ps) (sym h.0) h.2) (omega arith) in
    omega arith
