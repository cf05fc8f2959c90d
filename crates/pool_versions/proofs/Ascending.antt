-- The up members in order: the list ascends by name, holds each of them, and nothing else.
use Rattle.std.proofs.Common.{◌≡◌, ℕ, zero, suc, ◌+◌, ◌<◌, ◌≤◌, Bool, true, false, List, [], ◌∷◌, ◌++◌, length, map, sym, ◌∙◌, ap, arith, slice_index_or, inl, inr}
use Rattle.std.specs.List.{All}
use Rattle.std.proofs.lemmas.List.{length-map, append-nil, get_or-map}
use Rattle.std.proofs.lemmas.List.Elements.{All-nil, All-cons, All-head, All-tail, All-map, All-filter}
use Rattle.std.proofs.lemmas.Cmp.{nat_list_cmp_total}
use Rattle.std.specs.declared.cmp.Ordering.{Ordering}
use Rattle.std.specs.declared.cmp.Ordering.TheVariants.{Less, Equal, Greater}
use Rattle.std.specs.Ordering.{is_lt, ordering_reverse}
use Rattle.std.specs.List.Sorted.{IsPermutation, IsSortedBy}
use Rattle.std.proofs.lemmas.Bool.{cases_Bool, true≢false}
use Rattle.std.proofs.lemmas.List.Sums.{length-filter, count_by-le-length}
use Rattle.std.proofs.lemmas.List.Sorted.{IsPermutation-refl, IsPermutation-cons, IsPermutation-trans, IsPermutation-insert, IsPermutation-middle, IsPermutation-append_left, length_permutation, IsPermutation-map}
use Rattle.pool_versions.specs.Pool.{is_below, AscendsByName, MembersAscend, insert_by_name, ascending_with, up_members, up_backends, ranked, ups, draining_members, draining_backends, weights, AreWeighed}
use Rattle.pool_versions.specs.declared.backend.Backend.{Backend}
use Rattle.pool_versions.specs.declared.backend.Member.{Member}

-- whether the first one's name is below
abbrev name_below : Member → Member → Bool
name_below b c = is_below b.backend.name c.backend.name

cons_at : {X : Type 0} (lt : X → X → Bool) (x y : X) (zs : List X) → lt y x ≡ false → IsSortedBy lt (y ∷ zs) →
    (k : ℕ) (d : X) → 0 ≤ k → k + 1 < length (x ∷ y ∷ zs) → lt (slice_index_or (x ∷ y ∷ zs) (k + 1) d) (slice_index_or (x ∷ y ∷ zs) k d) ≡ false
cons_at lt x y zs h s zero d low within = h
cons_at lt x y zs h s (suc k) d low within =
    let e : suc k + 1 ≡ suc (k + 1) = omega arith in
    rw e (s k d (omega arith) (omega arith))

sorted_cons : {X : Type 0} (lt : X → X → Bool) (x y : X) (zs : List X) → lt y x ≡ false → IsSortedBy lt (y ∷ zs) → IsSortedBy lt (x ∷ y ∷ zs)
sorted_cons lt x y zs h s = cons_at lt x y zs h s

pub sorted_rest : {X : Type 0} (lt : X → X → Bool) (x : X) (ys : List X) → IsSortedBy lt (x ∷ ys) → IsSortedBy lt ys
sorted_rest lt x ys s = λ k d low within.
    let e : suc k + 1 ≡ suc (k + 1) = omega arith in
    let h = s (suc k) d (omega arith) (omega arith) in
    let h' = rw e at h in h'

sorted_one : {X : Type 0} (lt : X → X → Bool) (x : X) → IsSortedBy lt (x ∷ [])
sorted_one lt x = λ k d low within. absurd (omega arith)

sorted_first : {X : Type 0} (lt : X → X → Bool) (x y : X) (zs : List X) → IsSortedBy lt (x ∷ y ∷ zs) → lt y x ≡ false
sorted_first lt x y zs s = s 0 x (omega arith) (omega arith)

not_above : (o p : Ordering) → p ≡ ordering_reverse o → is_lt o ≡ true → is_lt p ≡ false
not_above Less p e h = ap is_lt e
not_above Equal p e h = absurd (true≢false (sym h))
not_above Greater p e h = absurd (true≢false (sym h))

below_is_not_above : (a b : List ℕ) → is_below a b ≡ true → is_below b a ≡ false
below_is_not_above a b h = not_above _ _ (nat_list_cmp_total.antisymm b a) h

-- a member put into a list that ascends behind a first one that is not above it
inserted_behind : (c b : Member) (cs : List Member) → is_below b.backend.name c.backend.name ≡ false → MembersAscend (c ∷ cs) → MembersAscend (c ∷ insert_by_name b cs)
inserted_behind c b [] h s = sorted_cons name_below c b [] h (sorted_one name_below b)
inserted_behind c b (d ∷ ds) h s = elim (cases_Bool (is_below b.backend.name d.backend.name)) [
  | inl lower ↦ rw lower (sorted_cons name_below c b (d ∷ ds) h (sorted_cons name_below b d ds (below_is_not_above b.backend.name d.backend.name lower) (sorted_rest name_below c (d ∷ ds) s)))
  | inr higher ↦ rw higher (sorted_cons name_below c d (insert_by_name b ds) (sorted_first name_below c d ds s) (inserted_behind d b ds higher (sorted_rest name_below c (d ∷ ds) s)))
]

pub inserted_ascends : (b : Member) (cs : List Member) → MembersAscend cs → MembersAscend (insert_by_name b cs)
inserted_ascends b [] s = sorted_one name_below b
inserted_ascends b (c ∷ cs) s = elim (cases_Bool (is_below b.backend.name c.backend.name)) [
  | inl lower ↦ rw lower (sorted_cons name_below b c cs (below_is_not_above b.backend.name c.backend.name lower) s)
  | inr higher ↦ rw higher (inserted_behind c b cs higher s)
]

ascending_with_ascends : (sorted bs : List Member) → MembersAscend sorted → MembersAscend (ascending_with sorted bs)
ascending_with_ascends sorted [] s = s
ascending_with_ascends sorted (b ∷ bs) s = ascending_with_ascends (insert_by_name b sorted) bs (inserted_ascends b sorted s)

inserted_is_there : (b : Member) (cs : List Member) → IsPermutation (b ∷ cs) (insert_by_name b cs)
inserted_is_there b [] = IsPermutation-refl (b ∷ [])
inserted_is_there b (c ∷ cs) = elim (cases_Bool (is_below b.backend.name c.backend.name)) [
  | inl lower ↦ rw lower (IsPermutation-refl (b ∷ c ∷ cs))
  | inr higher ↦ rw higher (IsPermutation-trans (b ∷ c ∷ cs) (c ∷ b ∷ cs) _ (IsPermutation-insert (c ∷ cs) 1 b) (IsPermutation-cons c _ _ (inserted_is_there b cs)))
]

ascending_with_permutes : (sorted bs : List Member) → IsPermutation (sorted ++ bs) (ascending_with sorted bs)
ascending_with_permutes sorted [] = rw (append-nil sorted) (IsPermutation-refl sorted)
ascending_with_permutes sorted (b ∷ bs) =
    IsPermutation-trans (sorted ++ b ∷ bs) (b ∷ (sorted ++ bs)) _ (IsPermutation-middle sorted b bs)
    (IsPermutation-trans (b ∷ (sorted ++ bs)) (insert_by_name b sorted ++ bs) _
    (IsPermutation-append_left bs (b ∷ sorted) (insert_by_name b sorted) (inserted_is_there b sorted))
    (ascending_with_permutes (insert_by_name b sorted) bs))

pub sorted_ascend : (ms : List Member) → MembersAscend (ascending_with [] ms)
sorted_ascend ms = ascending_with_ascends [] ms (λ k d low within. absurd (omega arith))

pub ranked_ascend : (ms : List Member) → MembersAscend (ranked ms)
ranked_ascend ms = sorted_ascend (up_members ms)

pub ranked_permute : (ms : List Member) → IsPermutation (up_members ms) (ranked ms)
ranked_permute ms = ascending_with_permutes [] (up_members ms)

a_member : Backend → Member
a_member b = record { backend = b; up = true; draining = false; weight = 1 }

-- the backends of members that ascend do so too
pub backends_ascend : (ms : List Member) → MembersAscend ms → AscendsByName (map (λ m. m.backend) ms)
backends_ascend ms s = λ k d low within.
    let len : length (map (λ (m : Member). m.backend) ms) ≡ length ms = length-map ms (λ (m : Member). m.backend) in
    let next : slice_index_or (map (λ (m : Member). m.backend) ms) (k + 1) d ≡ (slice_index_or ms (k + 1) (a_member d)).backend = get_or-map (λ (m : Member). m.backend) ms (k + 1) (a_member d) d (omega arith) in
    let this : slice_index_or (map (λ (m : Member). m.backend) ms) k d ≡ (slice_index_or ms k (a_member d)).backend = get_or-map (λ (m : Member). m.backend) ms k (a_member d) d (omega arith) in
    rw (next, this) (s k (a_member d) low (omega arith))

pub ups_ascend : (ms : List Member) → AscendsByName (ups ms)
ups_ascend ms = backends_ascend (ranked ms) (ranked_ascend ms)

pub draining_ascend : (ms : List Member) → AscendsByName (draining_backends ms)
draining_ascend ms = backends_ascend (ascending_with [] (draining_members ms)) (sorted_ascend (draining_members ms))

pub ups_permute : (ms : List Member) → IsPermutation (up_backends ms) (ups ms)
ups_permute ms = IsPermutation-map (λ (m : Member). m.backend) (up_members ms) (ranked ms) (ranked_permute ms)

pub ranked_are_members : (ms : List Member) → length (ranked ms) ≤ length ms
ranked_are_members ms =
    let moved : length (ranked ms) ≡ length (up_members ms) = length_permutation _ _ (ranked_permute ms) in
    let few = count_by-le-length (λ (m : Member). m.up) ms in
    omega (arith, moved, length-filter (λ (m : Member). m.up) ms, few)

pub ups_are_members : (ms : List Member) → length (ups ms) ≤ length ms
ups_are_members ms = let mapped : length (ups ms) ≡ length (ranked ms) = length-map (ranked ms) (λ (m : Member). m.backend) in omega (arith, mapped, ranked_are_members ms)

-- as many weights as backends
pub as_many_weights : (ms : List Member) → length (weights ms) ≡ length (ups ms)
as_many_weights ms = length-map (ranked ms) (λ (m : Member). m.weight) ∙ sym (length-map (ranked ms) (λ (m : Member). m.backend))

-- what holds of members holds of those in order
inserted_hold : (P : Member → Type 0) (m : Member) (ms : List Member) → P m → All P ms → All P (insert_by_name m ms)
inserted_hold P m [] h all = All-cons P m [] h all
inserted_hold P m (n ∷ ns) h all = elim (cases_Bool (is_below m.backend.name n.backend.name)) [
  | inl lower ↦ rw lower (All-cons P m (n ∷ ns) h all)
  | inr higher ↦ rw higher (All-cons P n (insert_by_name m ns) (All-head P n ns all) (inserted_hold P m ns h (All-tail P n ns all)))
]

ascending_hold : (P : Member → Type 0) (sorted ms : List Member) → All P sorted → All P ms → All P (ascending_with sorted ms)
ascending_hold P sorted [] s all = s
ascending_hold P sorted (m ∷ ms) s all = ascending_hold P (insert_by_name m sorted) ms (inserted_hold P m sorted (All-head P m ms all) s) (All-tail P m ms all)

-- the weights of members in order are weights
pub weights_hold : (ms : List Member) → AreWeighed ms → All (λ w. (1 ≤ w) × (w ≤ 16)) (weights ms)
weights_hold ms all =
    All-map (λ w. (1 ≤ w) × (w ≤ 16)) (λ (m : Member). m.weight) (ranked ms)
    (ascending_hold (λ m. (1 ≤ m.weight) × (m.weight ≤ 16)) [] (up_members ms) (All-nil (λ m. (1 ≤ m.weight) × (m.weight ≤ 16)))
    (All-filter (λ m. m.up) (λ m. (1 ≤ m.weight) × (m.weight ≤ 16)) ms all))
