-- The ring of links, after a use and after a place more.
use Rattle.std.proofs.Common.{◌≡◌, ℕ, suc, ◌+◌, ◌-◌, ◌<◌, ◌≤◌, List, [], ◌∷◌, length, get_or, not, set, refl, sym, ap, ◌∙◌, subst, arith}
use Rattle.std.specs.Prelude.{eqb}
use Rattle.std.specs.List.{All, AllByRecursion, Contains, IsDistinct}
use Rattle.std.proofs.lemmas.Bool.{ne_eqb}
use Rattle.std.proofs.lemmas.List.{length-set, get_or_default}
use Rattle.std.proofs.lemmas.List.Elements.{All-cons, All-head, All-tail, All-filter, All-weaker}
use Rattle.std.proofs.lemmas.Map.Keys.{IsDistinct-cons}
use Rattle.recent_order.specs.Places.{without, ArePlaces}
use Rattle.recent_order.specs.Links.{Chained, AreLinked, IsRing, places_after, places_of}
use Rattle.recent_order.proofs.Others.{Avoids, avoids_by, distinct_without, places_promoted, places_added}
use Rattle.recent_order.proofs.Chains.{written, chain_same, older_has, newer_has, taken_out, put_first, places_after_are, last_newer}

-- an element that has what all have
each : (P : ℕ → Type 0) (xs : List ℕ) → All P xs → AllByRecursion P xs
each P [] h = tt
each P (x ∷ xs) h = (All-head P x xs h, each P xs (All-tail P x xs h))

pub zero_avoids : (m : ℕ) (xs : List ℕ) → All (λ p. (0 < p) × (p < m)) xs → Avoids 0 xs
zero_avoids m xs h = avoids_by 0 xs (All-weaker (λ p. (0 < p) × (p < m)) (λ y. 0 ≡ y → ⊥) (λ y k e. omega (arith, k.0)) xs h)

-- the neighbours of a place have links
pub older_within : (o n : List ℕ) (p : ℕ) (xs : List ℕ) → 0 < length o → AreLinked o n xs → Contains xs p → get_or o p 0 < length o
older_within o n p xs some h there = older_has (λ q. q < length o) o n p 0 0 xs some (each (λ q. q < length o) xs (All-weaker (λ q. (0 < q) × (q < length o)) (λ q. q < length o) (λ q k. k.1) xs h.within)) there h.ring

pub newer_within : (o n : List ℕ) (p : ℕ) (xs : List ℕ) → 0 < length o → AreLinked o n xs → Contains xs p → get_or n p 0 < length o
newer_within o n p xs some h there = newer_has (λ q. q < length o) o n p 0 0 xs some (each (λ q. q < length o) xs (All-weaker (λ q. (0 < q) × (q < length o)) (λ q. q < length o) (λ q k. k.1) xs h.within)) there h.ring

pub first_within : (o n : List ℕ) (xs : List ℕ) → 0 < length o → AreLinked o n xs → get_or o 0 0 < length o
unfolding Chained
first_within o n xs some h = go xs h.ring h.within
  where
    go : (ys : List ℕ) → Chained o n 0 ys 0 → All (λ p. (0 < p) × (p < length o)) ys → get_or o 0 0 < length o
    go [] c w = subst (λ (q : ℕ). q < length o) (sym c.0) some
    go (y ∷ ys) c w = subst (λ (q : ℕ). q < length o) (sym c.0) (All-head (λ p. (0 < p) × (p < length o)) y ys w).1

-- a place is taken out of the ring
pub unlinked : (o n : List ℕ) (p : ℕ) (xs : List ℕ) → get_or o p 0 < length o → get_or n p 0 < length o → AreLinked o n xs → Contains xs p
    → AreLinked (set o (get_or n p 0) (get_or o p 0)) (set n (get_or o p 0) (get_or n p 0)) (without p xs)
unlinked o n p xs lo ln h there =
    let zv : Avoids 0 xs = zero_avoids (length o) xs h.within in
    let lo₂ : get_or o p 0 < length n = subst (λ (m : ℕ). get_or o p 0 < m) (sym h.even) lo in
    let len : length (set o (get_or n p 0) (get_or o p 0)) ≡ length o = length-set o (get_or n p 0) (get_or o p 0) in
    record {
      even = length-set n (get_or o p 0) (get_or n p 0) ∙ h.even ∙ sym len;
      ring = taken_out o n (set o (get_or n p 0) (get_or o p 0)) (set n (get_or o p 0) (get_or n p 0)) p (get_or n p 0) (get_or o p 0) 0 0 xs (written (get_or n p 0) (get_or o p 0) o ln) (written (get_or o p 0) (get_or n p 0) n lo₂) refl refl zv h.apart zv there h.ring;
      apart = distinct_without p xs h.apart;
      within = subst (λ (m : ℕ). All (λ q. (0 < q) × (q < m)) (without p xs)) (sym len) (All-filter (λ q. not (eqb q p)) (λ q. (0 < q) × (q < length o)) xs h.within);
    }

-- a place is put in front of the ring
pub linked_first : (o n : List ℕ) (p : ℕ) (xs : List ℕ) → 0 < p → p < length o → get_or o 0 0 < length o → Avoids p xs → AreLinked o n xs
    → AreLinked (set (set o p (get_or o 0 0)) 0 p) (set (set n p 0) (get_or o 0 0) p) (p ∷ xs)
linked_first o n p xs some lp lf pv h =
    let f : ℕ = get_or o 0 0 in
    let zv : Avoids 0 xs = zero_avoids (length o) xs h.within in
    let lo₁ : length (set o p (get_or o 0 0)) ≡ length o = length-set o p (get_or o 0 0) in
    let lo₂ : length (set (set o p (get_or o 0 0)) 0 p) ≡ length o = length-set (set o p (get_or o 0 0)) 0 p ∙ lo₁ in
    let ln₁ : length (set n p 0) ≡ length n = length-set n p 0 in
    let ln₂ : length (set (set n p 0) (get_or o 0 0) p) ≡ length n = length-set (set n p 0) (get_or o 0 0) p ∙ ln₁ in
    let en : length n ≡ length o = h.even in
    record {
      even = ln₂ ∙ en ∙ sym lo₂;
      ring = put_first o n (set o p (get_or o 0 0)) (set n p 0) (set (set o p (get_or o 0 0)) 0 p) (set (set n p 0) (get_or o 0 0) p) p (get_or o 0 0) xs refl (written p (get_or o 0 0) o lp) (written 0 p (set o p (get_or o 0 0)) (omega arith)) (written p 0 n (omega arith)) (written (get_or o 0 0) p (set n p 0) (omega arith)) (ne_eqb p 0 (λ e. omega arith)) pv zv h.apart h.ring;
      apart = IsDistinct-cons eqb p xs pv h.apart;
      within = subst (λ (m : ℕ). All (λ q. (0 < q) × (q < m)) (p ∷ xs)) (sym lo₂) (All-cons (λ q. (0 < q) × (q < length o)) p xs (some, lp) h.within);
    }

pub avoids_from_not : (p : ℕ) (xs : List ℕ) → (Contains xs p → ⊥) → Avoids p xs
avoids_from_not p xs h = avoids_by p xs (λ k d low e. h (k, low, get_or_default xs k p d low ∙ sym e))

-- the places of a ring are those that its links lead to
pub places_are : (o n : List ℕ) (xs : List ℕ) → IsRing o n xs → places_of o ≡ xs
unfolding places_of
places_are o n xs h = ap (λ (m : ℕ). places_after o m 0) (sym h.sized) ∙ places_after_are o n 0 0 xs h.linked.ring

pub ring_of : (o n : List ℕ) (xs : List ℕ) → IsRing o n xs → IsRing o n (places_of o)
ring_of o n xs h = subst (λ (ys : List ℕ). IsRing o n ys) (sym (places_are o n xs h)) h

-- a ring after a use
pub promoted : (o n o₂ n₂ : List ℕ) (p : ℕ) (xs : List ℕ) → 0 < p → p ≤ length xs → length o₂ ≡ length o → IsRing o n xs → AreLinked o₂ n₂ (p ∷ without p xs) → IsRing o₂ n₂ (p ∷ without p xs)
promoted o n o₂ n₂ p xs some low len h linked =
    let places : ArePlaces (length xs) (p ∷ without p xs) = places_promoted (length xs) p xs some low h.places in
    record {
      sized = places.long ∙ h.sized ∙ ap (λ (m : ℕ). m - 1) (sym len);
      linked = linked;
      places = subst (λ (m : ℕ). ArePlaces m (p ∷ without p xs)) (sym places.long) places;
    }

-- a ring with room for one place more: the new links are 0, as what is past the end
pub extended : (o n o₂ n₂ : List ℕ) (xs : List ℕ) → length o ≤ length o₂ → length n₂ ≡ length o₂ → ((q : ℕ) → get_or o₂ q 0 ≡ get_or o q 0) → ((q : ℕ) → get_or n₂ q 0 ≡ get_or n q 0) → AreLinked o n xs → AreLinked o₂ n₂ xs
extended o n o₂ n₂ xs more even so sn h = record {
  even = even;
  ring = chain_same o n o₂ n₂ 0 0 xs so sn h.ring;
  apart = h.apart;
  within = All-weaker (λ q. (0 < q) × (q < length o)) (λ q. (0 < q) × (q < length o₂)) (λ q k. (k.0, omega (arith, k.1))) xs h.within;
}

-- a ring after a place more
pub added : (o n o₂ n₂ : List ℕ) (p : ℕ) (xs : List ℕ) → p ≡ length xs + 1 → length o₂ ≡ p + 1 → IsRing o n xs → AreLinked o₂ n₂ (p ∷ xs) → IsRing o₂ n₂ ((length xs + 1) ∷ xs)
added o n o₂ n₂ p xs e len h linked = record {
  sized = omega arith;
  linked = subst (λ (q : ℕ). AreLinked o₂ n₂ (q ∷ xs)) e linked;
  places = let k : suc (length xs) ≡ length xs + 1 = omega arith in subst (λ (m : ℕ). ArePlaces m ((length xs + 1) ∷ xs)) (sym k) (places_added (length xs) xs h.places);
}

-- no places
pub no_ring : (o n : List ℕ) → o ≡ [] → n ≡ [] → IsRing o n []
unfolding Chained IsDistinct
no_ring o n eo en = subst (λ (ys : List ℕ). IsRing ys n []) (sym eo) (subst (λ (ys : List ℕ). IsRing [] ys []) (sym en) record {
  sized = omega arith;
  linked = record { even = refl; ring = (refl, refl); apart = tt; within = λ k d low. absurd (omega arith) };
  places = record { long = refl; low = λ k d low. absurd (omega arith); apart = tt; all = λ p low high. absurd (omega arith) };
})

-- the oldest place
pub oldest_is : (o n : List ℕ) (xs : List ℕ) → 0 < length xs → IsRing o n xs → get_or n 0 0 ≡ get_or xs (length xs - 1) 0
oldest_is o n [] some h = absurd (omega arith)
oldest_is o n (x ∷ xs) some h =
    let e : suc (length xs) - 1 ≡ length xs = omega arith in
    last_newer o n 0 0 x xs h.linked.ring ∙ ap (λ (k : ℕ). get_or (x ∷ xs) k 0) (sym e)

-- lists that are equal link alike
pub linked_along : (o n o₂ n₂ xs : List ℕ) → o₂ ≡ o → n₂ ≡ n → AreLinked o n xs → AreLinked o₂ n₂ xs
linked_along o n o₂ n₂ xs eo en h = subst (λ (ys : List ℕ). AreLinked ys n₂ xs) (sym eo) (subst (λ (ys : List ℕ). AreLinked o ys xs) (sym en) h)
