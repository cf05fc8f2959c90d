-- What ranked destinations are, in the words of the packets alone.
use Rattle.std.proofs.Common.{◌≡◌, ℕ, zero, suc, ◌+◌, ◌<◌, ◌≤◌, Bool, true, false, not, cond, List, [], ◌∷◌, map, length, get_or, refl, sym, ap, ◌∙◌, subst, arith, inl, inr, ⊎_elim, add-one, rules}
use Rattle.std.specs.Prelude.{count_by, filter, nat_lt, ◌==◌, ◌&&◌, ◌||◌, if◌then◌else◌}
use Rattle.std.specs.List.{All, AllPairs, AllByRecursion, list_any, IsDistinct}
use Rattle.std.specs.List.Sorted.{IsPermutation, IsSortedBy, ties}
use Rattle.std.proofs.lemmas.Bool.{cases_lt}
use Rattle.std.proofs.lemmas.Bool.Decides.{nat_tests}
use Rattle.std.proofs.lemmas.List.{get_or-map, length-map}
use Rattle.std.proofs.lemmas.List.Elements.{All-from_recursion, All-filter}
use Rattle.std.proofs.lemmas.List.Kept.{AllPairs-cons, AllPairs-filter}
use Rattle.std.proofs.lemmas.List.MinMax.{IsStrictWeakOrder-by_number}
use Rattle.std.proofs.lemmas.List.Sorted.{All-permutation, list_any-IsPermutation, ties_stay_sorted}
use Rattle.std.proofs.lemmas.Map.Keys.{IsDistinct-IsPermutation, IsDistinct-from_apart, apart_from_distinct}
use Rattle.pool_versions.specs.declared.key.ServiceKey.{ServiceKey}
use Rattle.pool_versions.specs.Pool.{same_key}
use Rattle.scenario_sketch.specs.declared.counted.Counted.{Counted}
use Rattle.scenario_sketch.specs.Counts.{destinations_among, counted, is_busy, busy, is_busier, IsRanked}
use Rattle.scenario_sketch.specs.Fairness.{first_place, ComesBefore, RankedAreFair}
use Rattle.scenario_sketch.proofs.Keys.{same_key-true, same_key-refl, same_key-flip, others, others_apart, among_once}
use Rattle.scenario_sketch.proofs.Counting.{none_counted}
use Rattle.scenario_sketch.proofs.Orders.{busier_is_order}

abbrev pub counts : (ServiceKey → ℕ) → List ServiceKey → List Counted
counts g ks = map (λ k. record { service = k; packets = g k }) ks

-- each has its number
counts_exact : (g : ServiceKey → ℕ) (ks : List ServiceKey) → AllByRecursion (λ (c : Counted). c.packets ≡ g c.service) (counts g ks)
counts_exact g [] = search rules
counts_exact g (k ∷ ks) = (refl, counts_exact g ks)

never : (b : Bool) → (b && false) ≡ false
never true = refl
never false = refl

-- those of more than five packets are there
found_cases : (g : ServiceKey → ℕ) (k z : ServiceKey) (rest : List Counted) (ks : List ServiceKey) (v w : Bool) → same_key k z ≡ v → nat_lt 5 (g z) ≡ w
    → list_any (λ c. same_key k c.service) rest ≡ (list_any (same_key k) ks && nat_lt 5 (g k))
    → list_any (λ c. same_key k c.service) (cond w (record { service = z; packets = g z } ∷ rest) rest) ≡ ((v || list_any (same_key k) ks) && nat_lt 5 (g k))
found_cases g k z rest ks true true e w h = ap (λ (b : Bool). b || list_any (λ c. same_key k c.service) rest) e ∙ sym (ap (λ (y : ServiceKey). nat_lt 5 (g y)) (same_key-true k z e) ∙ w)
found_cases g k z rest ks true false e w h =
    let low : nat_lt 5 (g k) ≡ false = ap (λ (y : ServiceKey). nat_lt 5 (g y)) (same_key-true k z e) ∙ w in
    h ∙ ap (λ (b : Bool). list_any (same_key k) ks && b) low ∙ never (list_any (same_key k) ks) ∙ sym low
found_cases g k z rest ks false true e w h = ap (λ (b : Bool). b || list_any (λ c. same_key k c.service) rest) e ∙ h
found_cases g k z rest ks false false e w h = h

found : (g : ServiceKey → ℕ) (k : ServiceKey) (ks : List ServiceKey) → list_any (λ c. same_key k c.service) (filter is_busy (counts g ks)) ≡ (list_any (same_key k) ks && nat_lt 5 (g k))
found g k [] = refl
found g k (z ∷ ks) = found_cases g k z (filter is_busy (counts g ks)) ks (same_key k z) (nat_lt 5 (g z)) refl refl (found g k ks)

only_busy : (b : Bool) (n : ℕ) → (b ≡ false → n ≡ 0) → (b && nat_lt 5 n) ≡ nat_lt 5 n
only_busy true n h = refl
only_busy false n h = ap (nat_lt 5) (sym (h refl))

busy_found : (ds : List ServiceKey) (k : ServiceKey) → list_any (λ c. same_key k c.service) (busy ds) ≡ nat_lt 5 (count_by (same_key k) ds)
busy_found ds k =
    found (λ z. count_by (same_key z) ds) k (destinations_among ds)
    ∙ ap (λ (b : Bool). b && nat_lt 5 (count_by (same_key k) ds)) (among_once k ds)
    ∙ only_busy (list_any (same_key k) ds) (count_by (same_key k) ds) (none_counted (same_key k) ds)

-- destinations in the order in which they came first
abbrev pub IsEarlier : List ServiceKey → ServiceKey → ServiceKey → Type 0
IsEarlier ds a b = first_place ds a < first_place ds b

later_place : (d : ServiceKey) (ds : List ServiceKey) (k : ServiceKey) → same_key d k ≡ false → first_place (d ∷ ds) k ≡ suc (first_place ds k)
later_place d ds k e = ap (λ (b : Bool). if b then 0 else suc (first_place ds k)) (same_key-flip k d ∙ e)

first_at_once : (d : ServiceKey) (ds : List ServiceKey) → first_place (d ∷ ds) d ≡ 0
first_at_once d ds = ap (λ (b : Bool). if b then 0 else suc (first_place ds d)) (same_key-refl d)

once_earlier : (ds : List ServiceKey) → AllPairs (IsEarlier ds) (destinations_among ds)
once_earlier [] = λ i j k lt within. absurd (omega arith)
once_earlier (d ∷ ds) =
    let apart : All (λ k. same_key d k ≡ false) (others d (destinations_among ds)) = All-from_recursion (λ k. same_key d k ≡ false) (others d (destinations_among ds)) (others_apart d (destinations_among ds)) in
    let rest : AllPairs (IsEarlier ds) (others d (destinations_among ds)) = AllPairs-filter (IsEarlier ds) (λ k. not (same_key d k)) (destinations_among ds) (once_earlier ds) in
    AllPairs-cons (IsEarlier (d ∷ ds)) d (others d (destinations_among ds))
    (λ k z within. omega (arith, first_at_once d ds, later_place d ds (get_or (others d (destinations_among ds)) k z) (apart k z within)))
    (λ i j z lt within.
    omega (arith, later_place d ds (get_or (others d (destinations_among ds)) i z) (apart i z (omega arith)), later_place d ds (get_or (others d (destinations_among ds)) j z) (apart j z within), rest i j z lt within))

abbrev pub place : List ServiceKey → Counted → ℕ
place ds c = first_place ds c.service

abbrev pub is_earlier : List ServiceKey → Counted → Counted → Bool
is_earlier ds a b = nat_lt (place ds a) (place ds b)

abbrev pub same_place : List ServiceKey → Counted → Counted → Bool
same_place ds a b = place ds a == place ds b

counts_earlier : (ds : List ServiceKey) (g : ServiceKey → ℕ) (ks : List ServiceKey) → AllPairs (IsEarlier ds) ks → AllPairs (λ a b. place ds a < place ds b) (counts g ks)
counts_earlier ds g ks h i j d lt within =
    let f : ServiceKey → Counted = λ k. record { service = k; packets = g k } in
    let low : j < length ks = omega (arith, length-map ks f) in
    let a = get_or-map f ks i d.service d (omega arith) in
    let b = get_or-map f ks j d.service d low in
    omega (arith, ap (place ds) a, ap (place ds) b, h i j d.service lt low)

busy_earlier : (ds : List ServiceKey) → AllPairs (λ a b. place ds a < place ds b) (busy ds)
busy_earlier ds =
    AllPairs-filter (λ a b. place ds a < place ds b) is_busy (counted ds) (counts_earlier ds (λ k. count_by (same_key k) ds) (destinations_among ds) (once_earlier ds))

not_earlier : (m n : ℕ) → m < n → nat_lt n m ≡ false
not_earlier m n h = grind (arith, nat_tests)

not_same : (m n : ℕ) → m < n → (m == n) ≡ false
not_same m n h = grind (arith, nat_tests)

same_flip : (m n : ℕ) → (m == n) ≡ (n == m)
same_flip m n = grind (arith, nat_tests)

is_below : (m n : ℕ) → nat_lt n m ≡ false → (m == n) ≡ false → m < n
is_below m n a b = grind (arith, nat_tests)

not_below : (m n : ℕ) → nat_lt m n ≡ false → n ≤ m
not_below m n h = grind (arith, nat_tests)

busy_sorted : (ds : List ServiceKey) → IsSortedBy (is_earlier ds) (busy ds)
busy_sorted ds k d _ within = not_earlier (place ds (get_or (busy ds) k d)) (place ds (get_or (busy ds) (k + 1) d)) (busy_earlier ds k (k + 1) d (omega arith) within)

ranked_apart : (ds : List ServiceKey) (ranked : List Counted) → IsPermutation (busy ds) ranked → IsDistinct (same_place ds) ranked
ranked_apart ds ranked perm =
    IsDistinct-IsPermutation (same_place ds) (λ a b. same_flip (place ds a) (place ds b)) (busy ds) ranked perm
    (IsDistinct-from_apart (same_place ds) (busy ds) (λ i j d lt within. not_same (place ds (get_or (busy ds) i d)) (place ds (get_or (busy ds) j d)) (busy_earlier ds i j d lt within)))

tied : (a b : Counted) → a.packets ≡ b.packets → ties is_busier a b ≡ true
tied a b e = grind (arith, nat_tests)

next_before : (ds : List ServiceKey) (ranked : List Counted) → IsRanked (busy ds) ranked → (k : ℕ) (d : Counted) → k + 1 < length ranked
    → ComesBefore ds (get_or ranked k d) (get_or ranked (k + 1) d)
next_before ds ranked h k d within =
    let a : Counted = get_or ranked k d in
    let b : Counted = get_or ranked (k + 1) d in
    let most : b.packets ≤ a.packets = not_below a.packets b.packets (h.descending k d (omega arith) within) in
    ⊎_elim
    (λ (less : b.packets < a.packets). inl less)
    (λ (other : a.packets ≤ b.packets).
    let same : a.packets ≡ b.packets = omega arith in
    let kept = ties_stay_sorted (is_earlier ds) is_busier (IsStrictWeakOrder-by_number (place ds)) busier_is_order (busy ds) ranked (busy_sorted ds) h.ties k d within (tied a b same) in
    let apart = apart_from_distinct (same_place ds) ranked k (k + 1) d (ranked_apart ds ranked h.permutation) (omega arith) within in
    inr (same, is_below (place ds a) (place ds b) kept apart))
    (cases_lt b.packets a.packets)

before_both : (ds : List ServiceKey) (a b c : Counted) → ComesBefore ds a b → ComesBefore ds b c → ComesBefore ds a c
before_both ds a b c (inl x) (inl y) = inl (omega arith)
before_both ds a b c (inl x) (inr y) = inl (omega (arith, y.0))
before_both ds a b c (inr x) (inl y) = inl (omega (arith, x.0))
before_both ds a b c (inr x) (inr y) = inr (x.0 ∙ y.0, omega (arith, x.1, y.1))

far_before : (ds : List ServiceKey) (ranked : List Counted) → IsRanked (busy ds) ranked → (j i : ℕ) (d : Counted) → i < j → j < length ranked
    → ComesBefore ds (get_or ranked i d) (get_or ranked j d)
far_before ds ranked h zero i d lt within = absurd (omega arith)
far_before ds ranked h (suc j) i d lt within =
    let next : ComesBefore ds (get_or ranked j d) (get_or ranked (suc j) d) =
    subst (λ (n : ℕ). ComesBefore ds (get_or ranked j d) (get_or ranked n d)) (add-one j) (next_before ds ranked h j d (omega arith)) in
    let before : i < j → ComesBefore ds (get_or ranked i d) (get_or ranked j d) = λ low. far_before ds ranked h j i d low (omega arith) in
    ⊎_elim
    (λ (low : i < j). before_both ds (get_or ranked i d) (get_or ranked j d) (get_or ranked (suc j) d) (before low) next)
    (λ (at : j ≤ i). let same : j ≡ i = omega arith in subst (λ (n : ℕ). ComesBefore ds (get_or ranked n d) (get_or ranked (suc j) d)) same next)
    (cases_lt i j)

pub fair : RankedAreFair
fair ds ranked h =
    let IsExact : Counted → Type 0 = λ c. c.packets ≡ count_by (same_key c.service) ds in
    record {
      exact = All-permutation IsExact (busy ds) ranked h.permutation
          (All-filter is_busy IsExact (counted ds) (All-from_recursion IsExact (counted ds) (counts_exact (λ k. count_by (same_key k) ds) (destinations_among ds))));
      there = λ k. sym (list_any-IsPermutation (λ c. same_key k c.service) (busy ds) ranked h.permutation) ∙ busy_found ds k;
      order = λ i j d lt within. far_before ds ranked h j i d lt within;
    }
