-- The places but one.
use Rattle.std.proofs.Common.{◌≡◌, ℕ, suc, ◌+◌, ◌<◌, ◌≤◌, Bool, true, false, cond, not, List, [], ◌∷◌, length, refl, sym, ap, ◌∙◌, subst, arith}
use Rattle.std.specs.Prelude.{eqb}
use Rattle.std.specs.List.{All, AllByRecursion, Contains, IsDistinct}
use Rattle.std.proofs.lemmas.Bool.{eqb-true, eqb-false, ne_eqb}
use Rattle.std.proofs.lemmas.List.Elements.{All-cons, All-head, All-tail, All-filter, All-weaker}
use Rattle.std.proofs.lemmas.Map.Keys.{IsDistinct-head, IsDistinct-tail, IsDistinct-cons}
use Rattle.std.proofs.lemmas.Map.Made.{Contains-tail}
use Rattle.recent_order.specs.Places.{without, ArePlaces}

-- q isn't among these
abbrev pub Avoids : ℕ → List ℕ → Type 0
Avoids q xs = AllByRecursion (λ y. eqb q y ≡ false) xs

pub apart_turned : (a b : ℕ) → eqb a b ≡ false → eqb b a ≡ false
apart_turned a b e = ne_eqb b a (λ k. eqb-false a b e (sym k))

pub none_there : (p : ℕ) → Contains [] p → ⊥
none_there p (k, low, is) = omega arith

pub contains_head : (p : ℕ) (xs : List ℕ) → Contains (p ∷ xs) p
contains_head p xs = (0, omega arith, refl)

pub contains_later : (x p : ℕ) (xs : List ℕ) → Contains xs p → Contains (x ∷ xs) p
contains_later x p xs (k, low, is) = (suc k, omega arith, is)

-- a place that differs from each is not among them
pub avoids_by : (q : ℕ) (xs : List ℕ) → All (λ y. q ≡ y → ⊥) xs → Avoids q xs
avoids_by q [] h = tt
avoids_by q (x ∷ xs) h = (ne_eqb q x (All-head (λ y. q ≡ y → ⊥) x xs h), avoids_by q xs (All-tail (λ y. q ≡ y → ⊥) x xs h))

avoids_without : (q p : ℕ) (xs : List ℕ) → Avoids q xs → Avoids q (without p xs)
avoids_without q p [] h = tt
avoids_without q p (x ∷ xs) h = go (not (eqb x p)) (avoids_without q p xs h.1)
  where
    go : (b : Bool) → Avoids q (without p xs) → Avoids q (cond b (x ∷ without p xs) (without p xs))
    go true k = (h.0, k)
    go false k = k

-- the place itself is not among the others
pub gone : (p : ℕ) (xs : List ℕ) → Avoids p (without p xs)
gone p [] = tt
gone p (x ∷ xs) = go (eqb x p) refl (gone p xs)
  where
    go : (b : Bool) → eqb x p ≡ b → Avoids p (without p xs) → Avoids p (cond (not b) (x ∷ without p xs) (without p xs))
    go true e k = k
    go false e k = (apart_turned x p e, k)

pub absent : (p : ℕ) (xs : List ℕ) → Avoids p xs → Contains xs p → ⊥
absent p [] h there = none_there p there
absent p (x ∷ xs) h there = absent p xs h.1 (Contains-tail x xs p (λ e. eqb-false p x h.0 (sym e)) there)

-- where the place isn't, nothing is left out
pub without_none : (p : ℕ) (xs : List ℕ) → Avoids p xs → without p xs ≡ xs
without_none p [] h = refl
without_none p (x ∷ xs) h =
    ap (λ (b : Bool). cond (not b) (x ∷ without p xs) (without p xs)) (apart_turned p x h.0)
    ∙ ap (λ (ys : List ℕ). x ∷ ys) (without_none p xs h.1)

pub distinct_without : (p : ℕ) (xs : List ℕ) → IsDistinct eqb xs → IsDistinct eqb (without p xs)
distinct_without p [] h = h
distinct_without p (x ∷ xs) h = go (not (eqb x p)) (distinct_without p xs (IsDistinct-tail eqb x xs h))
  where
    go : (b : Bool) → IsDistinct eqb (without p xs) → IsDistinct eqb (cond b (x ∷ without p xs) (without p xs))
    go true k = IsDistinct-cons eqb x (without p xs) (avoids_without x p xs (IsDistinct-head eqb x xs h)) k
    go false k = k

-- the others are one less
pub length_without : (p : ℕ) (xs : List ℕ) → IsDistinct eqb xs → Contains xs p → suc (length (without p xs)) ≡ length xs
length_without p [] h there = absurd (none_there p there)
length_without p (x ∷ xs) h there = go (eqb x p) refl (λ k. length_without p xs (IsDistinct-tail eqb x xs h) k)
  where
    go : (b : Bool) → eqb x p ≡ b → (Contains xs p → suc (length (without p xs)) ≡ length xs) → suc (length (cond (not b) (x ∷ without p xs) (without p xs))) ≡ suc (length xs)
    go true e k = ap (λ (ys : List ℕ). suc (length ys)) (without_none p xs (subst (λ (y : ℕ). Avoids y xs) (eqb-true x p e) (IsDistinct-head eqb x xs h)))
    go false e k = ap suc (k (Contains-tail x xs p (eqb-false x p e) there))

contains_without : (p q : ℕ) (xs : List ℕ) → (q ≡ p → ⊥) → Contains xs q → Contains (without p xs) q
contains_without p q [] ne there = absurd (none_there q there)
contains_without p q (x ∷ xs) ne there = go (eqb x q) refl (λ k. contains_without p q xs ne k)
  where
    first : eqb x q ≡ true → Contains (without p (x ∷ xs)) q
    first e =
        let same : x ≡ q = eqb-true x q e in
        let f : eqb x p ≡ false = ne_eqb x p (λ k. ne (sym same ∙ k)) in
        subst (λ (b : Bool). Contains (cond (not b) (x ∷ without p xs) (without p xs)) q) (sym f)
        (subst (λ (y : ℕ). Contains (y ∷ without p xs) q) (sym same) (contains_head q (without p xs)))

    later : (b : Bool) → Contains (without p xs) q → Contains (cond b (x ∷ without p xs) (without p xs)) q
    later true k = contains_later x q (without p xs) k
    later false k = k

    go : (b : Bool) → eqb x q ≡ b → (Contains xs q → Contains (without p xs) q) → Contains (without p (x ∷ xs)) q
    go true e k = first e
    go false e k = later (not (eqb x p)) (k (Contains-tail x xs q (eqb-false x q e) there))

-- a place in front of the others
pub places_promoted : (n p : ℕ) (xs : List ℕ) → 0 < p → p ≤ n → ArePlaces n xs → ArePlaces n (p ∷ without p xs)
places_promoted n p xs some within h = record {
  long = length_without p xs h.apart (h.all p some within) ∙ h.long;
  low = All-cons (λ q. (0 < q) × (q ≤ n)) p (without p xs) (some, within) (All-filter (λ q. not (eqb q p)) (λ q. (0 < q) × (q ≤ n)) xs h.low);
  apart = IsDistinct-cons eqb p (without p xs) (gone p xs) (distinct_without p xs h.apart);
  all = λ q low high. go q (eqb p q) refl (h.all q low high);
}
  where
    go : (q : ℕ) (b : Bool) → eqb p q ≡ b → Contains xs q → Contains (p ∷ without p xs) q
    go q true e k = subst (λ (r : ℕ). Contains (p ∷ without p xs) r) (eqb-true p q e) (contains_head p (without p xs))
    go q false e k = contains_later p q (without p xs) (contains_without p q xs (λ r. eqb-false p q e (sym r)) k)

-- the next place isn't there yet
pub next_avoids : (n : ℕ) (xs : List ℕ) → ArePlaces n xs → Avoids (n + 1) xs
next_avoids n xs h = avoids_by (n + 1) xs (All-weaker (λ p. (0 < p) × (p ≤ n)) (λ y. n + 1 ≡ y → ⊥) (λ y k e. omega (arith, k.1)) xs h.low)

-- one more place in front
pub places_added : (n : ℕ) (xs : List ℕ) → ArePlaces n xs → ArePlaces (n + 1) ((n + 1) ∷ xs)
places_added n xs h = record {
  long = let e : length xs ≡ n = h.long in omega arith;
  low = All-cons (λ q. (0 < q) × (q ≤ n + 1)) (n + 1) xs (omega arith, omega arith) (All-weaker (λ q. (0 < q) × (q ≤ n)) (λ q. (0 < q) × (q ≤ n + 1)) (λ q k. (k.0, omega (arith, k.1))) xs h.low);
  apart = IsDistinct-cons eqb (n + 1) xs (next_avoids n xs h) h.apart;
  all = λ q low high. go q (eqb (n + 1) q) refl low high;
}
  where
    go : (q : ℕ) (b : Bool) → eqb (n + 1) q ≡ b → 0 < q → q ≤ n + 1 → Contains ((n + 1) ∷ xs) q
    go q true e low high = subst (λ (r : ℕ). Contains ((n + 1) ∷ xs) r) (eqb-true (n + 1) q e) (contains_head (n + 1) xs)
    go q false e low high =
        let ne : n + 1 ≡ q → ⊥ = eqb-false (n + 1) q e in
        contains_later (n + 1) q xs (h.all q low (omega arith))
