-- What the lanes of all buckets become.
use Rattle.std.proofs.Common.{◌≡◌, ℕ, zero, suc, ◌<◌, ◌⊎◌, inl, inr, ⊎_elim, sym, ◌∙◌, ap, subst, arith}
use Rattle.std.proofs.lemmas.Bool.{cases_eq}
use Rattle.place_buckets.specs.declared.lanes.TheConstants.{LANES}
use Rattle.place_buckets.specs.Groups.{bucket_of, tag_of, home_in, IsInLane, Laned}

-- it is the lane, or another one
abbrev pub IsLane : ℕ → ℕ → ℕ → ℕ → Type 0
IsLane bucket i b j = (b ≡ bucket) × (j ≡ i)

pub which : (bucket i b j : ℕ) → IsLane bucket i b j ⊎ (IsLane bucket i b j → ⊥)
which bucket i b j =
    ⊎_elim (λ (e : b ≡ bucket). ⊎_elim (λ (k : j ≡ i). inl (e, k)) (λ (k : j ≡ i → ⊥). inr (λ (l : IsLane bucket i b j). k l.1)) (cases_eq j i))
    (λ (e : b ≡ bucket → ⊥). inr (λ (l : IsLane bucket i b j). e l.0)) (cases_eq b bucket)

-- a value is in a lane, or in none
pub decide : (at : ℕ → ℕ) (k p : ℕ) → ((i : ℕ) × (i < k) × (at i ≡ p)) ⊎ ((i : ℕ) → i < k → at i ≡ p → ⊥)
decide at zero p = inr (λ i low e. omega arith)
decide at (suc k) p =
    ⊎_elim (λ (e : at k ≡ p). inl (k, omega arith, e))
    (λ (other : at k ≡ p → ⊥).
    ⊎_elim (λ (f : (i : ℕ) × (i < k) × (at i ≡ p)). inl (f.0, (let low : f.0 < k = f.1 in omega arith), f.2))
    (λ (no : (i : ℕ) → i < k → at i ≡ p → ⊥). inr (λ i low e. ⊎_elim (λ (z : i ≡ k). other (subst (λ (x : ℕ). at x ≡ p) z e)) (λ (z : i ≡ k → ⊥). no i (omega arith) e) (cases_eq i k)))
    (decide at k p))
    (cases_eq (at k) p)

-- lanes that stay as they are
pub same_lanes : (count : ℕ) (hash after : ℕ → ℕ) (lane lanes tag tags : ℕ → ℕ → ℕ) (old new : ℕ → Type 0)
    → ((b i : ℕ) → b < count → lanes b i ≡ lane b i)
    → ((b i : ℕ) → b < count → tags b i ≡ tag b i)
    → ((p : ℕ) → 0 < p → old p → after p ≡ hash p)
    → ((p : ℕ) → 0 < p → old p → IsInLane count hash lane p → new p)
    → Laned count hash lane tag old → Laned count after lanes tags new
same_lanes count hash after lane lanes tag tags old new same signs hashes more l =
    let was : (b i : ℕ) → b < count → 0 < lanes b i → 0 < lane b i = λ b i low pos. subst (λ (x : ℕ). 0 < x) (same b i low) pos in
    let there : (b i : ℕ) → b < count → i < LANES → 0 < lane b i → new (lane b i)
    = λ b i low few pos. more (lane b i) pos (l.among b i low few pos) (i, few, ap (λ (x : ℕ). lane x i) (l.within b i low few pos)) in
    let hashed : (b i : ℕ) → b < count → i < LANES → 0 < lane b i → after (lanes b i) ≡ hash (lane b i)
    = λ b i low few pos. ap after (same b i low) ∙ hashes (lane b i) pos (l.among b i low few pos) in
    record {
      among = λ b i low few pos. subst new (sym (same b i low)) (there b i low few (was b i low pos));
      within = λ b i low few pos. ap (bucket_of count) (hashed b i low few (was b i low pos)) ∙ l.within b i low few (was b i low pos);
      tagged = λ b i low few pos. signs b i low ∙ l.tagged b i low few (was b i low pos) ∙ sym (ap tag_of (hashed b i low few (was b i low pos)));
      once = λ b i j low few less pos e. l.once b i j low few less (was b i low pos) (sym (same b i low) ∙ e ∙ same b j low);
    }

-- a place put in a lane that was free
pub put : (count : ℕ) (hash : ℕ → ℕ) (lane lanes tag tags : ℕ → ℕ → ℕ) (old new : ℕ → Type 0) (bucket i place : ℕ)
    → home_in count hash place ≡ bucket → lanes bucket i ≡ place → tags bucket i ≡ tag_of (hash place)
    → ((b j : ℕ) → (IsLane bucket i b j → ⊥) → lanes b j ≡ lane b j)
    → ((b j : ℕ) → (IsLane bucket i b j → ⊥) → tags b j ≡ tag b j)
    → (old place → ⊥) → new place → ((p : ℕ) → old p → new p)
    → Laned count hash lane tag old → Laned count hash lanes tags new
put count hash lane lanes tag tags old new bucket i place at is sign others signs absent there more l =
    let here : (b j : ℕ) → IsLane bucket i b j → lanes b j ≡ place = λ b j k. ap (λ (x : ℕ). lanes x j) k.0 ∙ ap (lanes bucket) k.1 ∙ is in
    let was : (b j : ℕ) → (IsLane bucket i b j → ⊥) → 0 < lanes b j → 0 < lane b j = λ b j k some. subst (λ (x : ℕ). 0 < x) (others b j k) some in
    let apart : (b j : ℕ) → b < count → j < LANES → (IsLane bucket i b j → ⊥) → 0 < lanes b j → lanes b j ≡ place → ⊥
    = λ b j low few k some e. absent (subst old (sym (others b j k) ∙ e) (l.among b j low few (was b j k some))) in
    record {
      among = λ b j low few some. ⊎_elim (λ (k : IsLane bucket i b j). subst new (sym (here b j k)) there)
          (λ (k : IsLane bucket i b j → ⊥). subst new (sym (others b j k)) (more (lane b j) (l.among b j low few (was b j k some)))) (which bucket i b j);
      within = λ b j low few some. ⊎_elim (λ (k : IsLane bucket i b j). ap (home_in count hash) (here b j k) ∙ at ∙ sym k.0)
          (λ (k : IsLane bucket i b j → ⊥). ap (home_in count hash) (others b j k) ∙ l.within b j low few (was b j k some)) (which bucket i b j);
      tagged = λ b j low few some. ⊎_elim
          (λ (k : IsLane bucket i b j). ap (λ (x : ℕ). tags x j) k.0 ∙ ap (tags bucket) k.1 ∙ sign ∙ sym (ap (λ (p : ℕ). tag_of (hash p)) (here b j k)))
          (λ (k : IsLane bucket i b j → ⊥). signs b j k ∙ l.tagged b j low few (was b j k some) ∙ sym (ap (λ (p : ℕ). tag_of (hash p)) (others b j k))) (which bucket i b j);
      once = λ b j m low few less some e. ⊎_elim
          (λ (k : IsLane bucket i b j). ⊎_elim (λ (o : IsLane bucket i b m). k.1 ∙ sym o.1)
          (λ (o : IsLane bucket i b m → ⊥). absurd (apart b m low less o (subst (λ (x : ℕ). 0 < x) e some) (sym e ∙ here b j k))) (which bucket i b m))
          (λ (k : IsLane bucket i b j → ⊥). ⊎_elim (λ (o : IsLane bucket i b m). absurd (apart b j low few k some (e ∙ here b m o)))
          (λ (o : IsLane bucket i b m → ⊥). l.once b j m low few less (was b j k some) (sym (others b j k) ∙ e ∙ others b m o)) (which bucket i b m))
          (which bucket i b j);
    }

-- a lane that is free from now on
pub freed : (count : ℕ) (hash : ℕ → ℕ) (lane lanes tag tags : ℕ → ℕ → ℕ) (old : ℕ → Type 0) (bucket i place : ℕ)
    → 0 < place → bucket < count → i < LANES → lane bucket i ≡ place → lanes bucket i ≡ 0
    → ((b j : ℕ) → (IsLane bucket i b j → ⊥) → lanes b j ≡ lane b j)
    → ((b j : ℕ) → b < count → tags b j ≡ tag b j)
    → Laned count hash lane tag old → Laned count hash lanes tags (λ p. old p × (p ≡ place → ⊥))
freed count hash lane lanes tag tags old bucket i place pos within small is free others signs l =
    let other : (b j : ℕ) → 0 < lanes b j → IsLane bucket i b j → ⊥
    = λ b j some k. let none : lanes b j ≡ 0 = ap (λ (x : ℕ). lanes x j) k.0 ∙ ap (lanes bucket) k.1 ∙ free in omega arith in
    let same : (b j : ℕ) → 0 < lanes b j → lanes b j ≡ lane b j = λ b j some. others b j (other b j some) in
    let was : (b j : ℕ) → 0 < lanes b j → 0 < lane b j = λ b j some. subst (λ (x : ℕ). 0 < x) (same b j some) some in
    let there : 0 < lane bucket i = subst (λ (x : ℕ). 0 < x) (sym is) pos in
    let apart : (b j : ℕ) → b < count → j < LANES → 0 < lanes b j → lanes b j ≡ place → ⊥
    = λ b j low few some e.
    let k : lane b j ≡ place = sym (same b j some) ∙ e in
    let home : b ≡ bucket = sym (l.within b j low few (was b j some)) ∙ ap (home_in count hash) (k ∙ sym is) ∙ l.within bucket i within small there in
    let both : lane bucket i ≡ lane bucket j = is ∙ sym k ∙ ap (λ (x : ℕ). lane x j) home in
    other b j some (home, sym (l.once bucket i j within small few there both)) in
    record {
      among = λ b j low few some. (subst old (sym (same b j some)) (l.among b j low few (was b j some)), apart b j low few some);
      within = λ b j low few some. ap (home_in count hash) (same b j some) ∙ l.within b j low few (was b j some);
      tagged = λ b j low few some. signs b j low ∙ l.tagged b j low few (was b j some) ∙ sym (ap (λ (p : ℕ). tag_of (hash p)) (same b j some));
      once = λ b j m low few less some e.
          let more : 0 < lanes b m = subst (λ (x : ℕ). 0 < x) e some in
          l.once b j m low few less (was b j some) (sym (same b j some) ∙ e ∙ same b m more);
    }

-- lanes that are free have no place
pub all_free : (count : ℕ) (hash : ℕ → ℕ) (lane tag : ℕ → ℕ → ℕ) (new : ℕ → Type 0) → ((b i : ℕ) → b < count → lane b i ≡ 0) → Laned count hash lane tag new
all_free count hash lane tag new free = record {
  among = λ b i low few pos. absurd (empty b i low pos);
  within = λ b i low few pos. absurd (empty b i low pos);
  tagged = λ b i low few pos. absurd (empty b i low pos);
  once = λ b i j low few less pos e. absurd (empty b i low pos);
}
  where
    empty : (b i : ℕ) → b < count → 0 < lane b i → ⊥
    empty b i low pos = let z : lane b i ≡ 0 = free b i low in omega arith
