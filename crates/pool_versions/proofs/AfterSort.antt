-- Two of a kind in a list: they stand side by side once it is sorted.
use Rattle.std.proofs.Common.{◌≡◌, ℕ, ◌+◌, ◌<◌, Bool, true, false, not, ◌||◌, List, [], ◌∷◌, length, map, refl, sym, ◌∙◌, ap, arith, slice_index_or}
use Rattle.std.specs.Cmp.{IsEquivalence, IsTotalOrder}
use Rattle.std.specs.declared.cmp.Ordering.{Ordering}
use Rattle.std.specs.declared.cmp.Ordering.TheVariants.{Less, Equal, Greater}
use Rattle.std.specs.Ordering.{eq_by_cmp, is_lt, is_eq, ordering_reverse}
use Rattle.std.specs.List.{list_any, IsDistinct, AllByRecursion, IsAllAdjacentAnswer}
use Rattle.std.specs.List.Sorted.{IsPermutation, IsSorted, IsStrictlySortedBy}
use Rattle.std.proofs.lemmas.Bool.{or_parts, or_from, true_from_ne_false, both_ways, not-true, not-false, true≢false}
use Rattle.std.proofs.lemmas.Map.Keys.{IsDistinct-from_apart, IsDistinct-IsPermutation, apart_from_distinct, Less-from_sorted, sorted_from_all_adjacent}
use Rattle.std.proofs.lemmas.List.Sorted.{IsPermutation-sym}
use Rattle.pool_versions.specs.Pool.{has_double}

all_apart : {K : Type 0} (e : K → K → Bool) (x : K) (ys : List K) → list_any (e x) ys ≡ false → AllByRecursion (λ y. e x y ≡ false) ys
all_apart e x [] h = tt
all_apart e x (y ∷ ys) h = let parts = or_parts (e x y) (list_any (e x) ys) h in (parts.0, all_apart e x ys parts.1)

none_alike : {K : Type 0} (e : K → K → Bool) (x : K) (ys : List K) → AllByRecursion (λ y. e x y ≡ false) ys → list_any (e x) ys ≡ false
none_alike e x [] h = refl
none_alike e x (y ∷ ys) h = or_from (e x y) (list_any (e x) ys) h.0 (none_alike e x ys h.1)

pub distinct_from_no_double : {K : Type 0} (e : K → K → Bool) (xs : List K) → has_double e xs ≡ false → IsDistinct e xs
unfolding IsDistinct
distinct_from_no_double e [] h = tt
distinct_from_no_double e (x ∷ xs) h =
    let parts = or_parts (list_any (e x) xs) (has_double e xs) h in
    (all_apart e x xs parts.0, distinct_from_no_double e xs parts.1)

pub no_double_from_distinct : {K : Type 0} (e : K → K → Bool) (xs : List K) → IsDistinct e xs → has_double e xs ≡ false
unfolding IsDistinct
no_double_from_distinct e [] h = refl
no_double_from_distinct e (x ∷ xs) h = or_from (list_any (e x) xs) (has_double e xs) (none_alike e x xs h.0) (no_double_from_distinct e xs h.1)

-- neighbours that are not above one another and not equal rise
less_of : (o p : Ordering) → o ≡ ordering_reverse p → is_lt p ≡ false → is_eq o ≡ false → o ≡ Less
less_of o Less e low apart = absurd (true≢false low)
less_of o Equal e low apart = absurd (true≢false (ap is_eq (sym e) ∙ apart))
less_of o Greater e low apart = e

not_equal : (o : Ordering) → o ≡ Less → is_eq o ≡ false
not_equal o e = ap is_eq e

pub distinct_from_neighbours : {K : Type 0} (e : K → K → Bool) (cmp : K → K → Ordering) → IsTotalOrder cmp → ((x y : K) → e x y ≡ eq_by_cmp cmp x y) →
    (ys : List K) → IsSorted cmp ys → ((k : ℕ) (d : K) → k + 1 < length ys → e (slice_index_or ys k d) (slice_index_or ys (k + 1) d) ≡ false) → IsDistinct e ys
distinct_from_neighbours {K} e cmp total ties ys sorted apart = IsDistinct-from_apart e ys (λ i j d less within.
    let rises : IsStrictlySortedBy cmp ys = sorted_from_all_adjacent total ys d (λ k below.
    less_of _ _ (total.antisymm (slice_index_or ys k d) (slice_index_or ys (k + 1) d)) (sorted k d (omega arith) below)
    (sym (ties (slice_index_or ys k d) (slice_index_or ys (k + 1) d)) ∙ apart k d below)) in
    ties (slice_index_or ys i d) (slice_index_or ys j d) ∙ not_equal _ (Less-from_sorted cmp ys i j d rises less within))

first_element : {K : Type 0} (ys : List K) (n : ℕ) → n < length ys → K
first_element [] n h = absurd (omega arith)
first_element (y ∷ ys) n h = y

-- after a sort the answer on neighbours is the answer on the list
pub double_from_sort : {K : Type 0} (e : K → K → Bool) (cmp : K → K → Ordering) → IsEquivalence e → IsTotalOrder cmp → ((x y : K) → e x y ≡ eq_by_cmp cmp x y) →
    (xs ys : List K) → IsPermutation xs ys → IsSorted cmp ys → (r : Bool) → IsAllAdjacentAnswer (λ x y b. b ≡ not (e x y)) ys r → not r ≡ has_double e xs
double_from_sort e cmp laws total ties xs ys moved sorted true apart =
    let distinct : IsDistinct e ys = distinct_from_neighbours e cmp total ties ys sorted (λ k d below. not-true _ (sym (apart k d below))) in
    sym (no_double_from_distinct e xs (IsDistinct-IsPermutation e laws.symm ys xs (IsPermutation-sym xs ys moved) distinct))
double_from_sort e cmp laws total ties xs ys moved sorted false alike =
    let k = alike.0 in
    let d = first_element ys (k + 1) alike.1 in
    let same : e (slice_index_or ys k d) (slice_index_or ys (k + 1) d) ≡ true = not-false _ (sym (alike.2 d)) in
    sym (true_from_ne_false (has_double e xs) (λ none.
    both_ways _ (apart_from_distinct e ys k (k + 1) d (IsDistinct-IsPermutation e laws.symm xs ys moved (distinct_from_no_double e xs none)) (omega arith) alike.1) same))

or_both : (a b c d : Bool) → a ≡ c → b ≡ d → (a || b) ≡ (c || d)
or_both a b c d e f = ap (λ x. x || b) e ∙ ap (λ y. c || y) f

any_mapped : {X K : Type 0} (e : K → K → Bool) (same : X → X → Bool) (f : X → K) → ((a b : X) → e (f a) (f b) ≡ same a b) → (x : X) (xs : List X) → list_any (e (f x)) (map f xs) ≡ list_any (same x) xs
any_mapped e same f alike x [] = refl
any_mapped e same f alike x (y ∷ ys) = or_both _ _ _ _ (alike x y) (any_mapped e same f alike x ys)

-- a test of keys is a test of what they are the keys of
pub double_mapped : {X K : Type 0} (e : K → K → Bool) (same : X → X → Bool) (f : X → K) → ((a b : X) → e (f a) (f b) ≡ same a b) → (xs : List X) → has_double e (map f xs) ≡ has_double same xs
double_mapped e same f alike [] = refl
double_mapped e same f alike (x ∷ xs) = or_both _ _ _ _ (any_mapped e same f alike x xs) (double_mapped e same f alike xs)
