-- A backend is sought by halves among others that ascend by name.
use Rattle.std.proofs.Common.{◌≡◌, ℕ, zero, suc, ◌+◌, ◌<◌, ◌≤◌, true, false, ◌&&◌, ◌||◌, ◌==◌, List, [], ◌∷◌, length, drop, get_or, slice_index_or, refl, sym, ◌∙◌, ap, arith, inl, inr, nat_eq}
use Rattle.std.specs.Cmp.Lexicographic.{pointwise, slice_cmp, nat_list_eq_equiv, texts_ties}
use Rattle.std.specs.declared.cmp.Ordering.{Ordering}
use Rattle.std.specs.declared.cmp.Ordering.TheVariants.{Less, Equal, Greater}
use Rattle.std.specs.List.{list_any}
use Rattle.std.specs.List.Sorted.{IsNonDecreasingBy, IsPartitionedBy, IsPartitionPoint}
use Rattle.std.specs.Ordering.{nat_cmp, is_lt, is_eq, ordering_index}
use Rattle.std.proofs.lemmas.Bool.{cases_Bool, true≢false}
use Rattle.std.proofs.lemmas.Cmp.{nat_list_cmp_total}
use Rattle.std.proofs.lemmas.List.{get_or-drop, length-drop}
use Rattle.std.proofs.lemmas.List.Sorted.{searchable_from_sorted, IsNonDecreasingBy-drop}
use Rattle.pool_versions.specs.Pool.{AscendsByName, is_below}
use Rattle.pool_versions.specs.declared.backend.Backend.{Backend}
use Rattle.selection.specs.Readied.{same_backend}
use Rattle.selection.specs.PrivateHalves.{is_at_head}

-- how a backend's name stands to that of the one that is sought
abbrev to_name : Backend → Backend → Ordering
to_name b c = slice_cmp nat_cmp c.name b.name

abbrev Rises : Backend → List Backend → Type 0
Rises b = IsNonDecreasingBy (λ c. ordering_index (to_name b c))

rises : (b : Backend) (bs : List Backend) → AscendsByName bs → Rises b bs
rises b bs s = searchable_from_sorted nat_list_cmp_total (λ (c : Backend). c.name) bs b.name s

named : (b c : Backend) → pointwise nat_eq b.name c.name ≡ is_eq (to_name b c)
named b c = nat_list_eq_equiv.symm b.name c.name ∙ texts_ties c.name b.name

less_before : (o p : Ordering) → ordering_index o ≤ ordering_index p → is_lt p ≡ true → is_lt o ≡ true
less_before Less p h t = refl
less_before Equal Less h t = absurd (omega arith)
less_before Equal Equal h t = t
less_before Equal Greater h t = t
less_before Greater Less h t = absurd (omega arith)
less_before Greater Equal h t = t
less_before Greater Greater h t = t

-- behind what is neither below nor equal nothing is equal
apart_behind : (o p : Ordering) → is_lt o ≡ false → is_eq o ≡ false → ordering_index o ≤ ordering_index p → is_eq p ≡ false
apart_behind Less p low apart h = absurd (true≢false low)
apart_behind Equal p low apart h = absurd (true≢false apart)
apart_behind Greater Less low apart h = refl
apart_behind Greater Equal low apart h = absurd (omega arith)
apart_behind Greater Greater low apart h = refl

less_is_apart : (o : Ordering) → is_lt o ≡ true → is_eq o ≡ false
less_is_apart Less h = refl
less_is_apart Equal h = absurd (true≢false (sym h))
less_is_apart Greater h = refl

pub parted : (b : Backend) (bs : List Backend) → AscendsByName bs → IsPartitionedBy (λ c. is_below c.name b.name) bs
parted b bs s = λ i j d before within below. less_before (to_name b (slice_index_or bs i d)) (to_name b (slice_index_or bs j d)) (rises b bs s i j d before within) below

none_of_name : (b : Backend) (bs : List Backend) → ((k : ℕ) (d : Backend) → k < length bs → is_eq (to_name b (get_or bs k d)) ≡ false) → list_any (same_backend b) bs ≡ false
none_of_name b [] h = refl
none_of_name b (c ∷ cs) h =
    let e : pointwise nat_eq b.name c.name ≡ false = named b c ∙ h 0 b (omega arith) in
    rw e (none_of_name b cs (λ k d within. h (suc k) d (omega arith)))

at_head : (b : Backend) (bs : List Backend) → Rises b bs → ((k : ℕ) (d : Backend) → k < length bs → is_lt (to_name b (get_or bs k d)) ≡ false) → is_at_head b bs ≡ list_any (same_backend b) bs
at_head b [] up low = refl
at_head b (c ∷ cs) up low = elim (cases_Bool (pointwise nat_eq b.name c.name)) [
  | inl same ↦ rw same (ap (λ v. (b.addr == c.addr) || v) (at_head b cs (λ i j d before within. up (suc i) (suc j) d (omega arith) (omega arith)) (λ k d within. low (suc k) d (omega arith))))
  | inr other ↦ rw other (sym (none_of_name b cs (λ k d within.
      apart_behind (to_name b c) (to_name b (get_or cs k d)) (low 0 d (omega arith)) (sym (named b c) ∙ other) (up 0 (suc k) d (omega arith) (omega arith)))))
]

skipped : (b : Backend) (bs : List Backend) (i : ℕ) → ((k : ℕ) (d : Backend) → k < i → is_lt (to_name b (get_or bs k d)) ≡ true) → i ≤ length bs → list_any (same_backend b) (drop i bs) ≡ list_any (same_backend b) bs
skipped b bs zero h within = refl
skipped b [] (suc i) h within = absurd (omega arith)
skipped b (c ∷ cs) (suc i) h within =
    let e : pointwise nat_eq b.name c.name ≡ false = named b c ∙ less_is_apart (to_name b c) (h 0 b (omega arith)) in
    rw e (skipped b cs i (λ k d low. h (suc k) d (omega arith)) (omega arith))

pub is_found_at_head : (b : Backend) (bs : List Backend) (i : ℕ) → AscendsByName bs → i ≤ length bs → IsPartitionPoint (λ c. is_below c.name b.name ≡ true) (λ c. is_below c.name b.name ≡ false) bs i →
    is_at_head b (drop i bs) ≡ list_any (same_backend b) bs
is_found_at_head b bs i s within parts =
    at_head b (drop i bs) (IsNonDecreasingBy-drop (λ c. ordering_index (to_name b c)) i bs (rises b bs s))
    (λ k d low. let e : get_or (drop i bs) k d ≡ get_or bs (i + k) d = get_or-drop i bs k d in rw e (parts.1 (i + k) d (omega arith) (omega (arith, length-drop {A = Backend}))))
    ∙ skipped b bs i (λ k d low. parts.0 k d (omega arith) low) within

-- one of another name is another one
apart_by_name : (b c : Backend) → is_eq (to_name b c) ≡ false → same_backend b c ≡ false
apart_by_name b c apart = ap (λ v. v && (b.addr == c.addr)) (named b c ∙ apart)

pub apart_before : (b : Backend) (bs : List Backend) (first : ℕ) → first ≤ length bs → IsPartitionPoint (λ c. is_below c.name b.name ≡ true) (λ c. is_below c.name b.name ≡ false) bs first →
    (k : ℕ) (d : Backend) → k < first → same_backend b (get_or bs k d) ≡ false
apart_before b bs first within parts k d low =
    apart_by_name b (get_or bs k d) (less_is_apart (to_name b (get_or bs k d)) (parts.0 k d (omega arith) low))

pub apart_from_end : (b : Backend) (bs : List Backend) (first end : ℕ) → AscendsByName bs → IsPartitionPoint (λ c. is_below c.name b.name ≡ true) (λ c. is_below c.name b.name ≡ false) bs first → first ≤ end →
    ((d : Backend) → end < length bs → pointwise nat_eq b.name (get_or bs end d).name ≡ false) →
    (k : ℕ) (d : Backend) → end ≤ k → k < length bs → same_backend b (get_or bs k d) ≡ false
apart_from_end b bs first end s parts order other k d high within =
    let up : IsNonDecreasingBy (λ c. ordering_index (to_name b c)) bs = searchable_from_sorted nat_list_cmp_total (λ (c : Backend). c.name) bs b.name s in
    let here : is_eq (to_name b (get_or bs end d)) ≡ false = sym (named b (get_or bs end d)) ∙ other d (omega arith) in
    apart_by_name b (get_or bs k d)
    (apart_behind (to_name b (get_or bs end d)) (to_name b (get_or bs k d)) (parts.1 end d order (omega arith)) here (up end k d high within))
