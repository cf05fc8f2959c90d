-- The tables of members that are there once; and what slots in turn name.
use Rattle.std.proofs.Common.{◌≡◌, ℕ, ◌%◌, ◌==◌, refl, ◌∙◌, ap, arith, Bool, false, ◌&&◌, List, [], ◌∷◌, map, filter, length, get_or, slice_get, inl, inr}
use Rattle.std.specs.List.{list_any, range_with_len}
use Rattle.std.specs.Cmp.Lexicographic.{nat_list_eq_equiv}
use Rattle.std.proofs.lemmas.Bool.{cases_Bool, or_parts, or_from}
use Rattle.std.proofs.lemmas.List.FromFn.{get_or-map-range_with_len}
use Rattle.std.proofs.lemmas.Map.Keys.{IsDistinct-IsPermutation}
use Rattle.pool_versions.specs.declared.backend.Member.{Member}
use Rattle.pool_versions.specs.Pool.{has_double, same_name, up_members, ranked}
use Rattle.pool_versions.proofs.AfterSort.{distinct_from_no_double, no_double_from_distinct, double_mapped}
use Rattle.pool_versions.proofs.Ascending.{ranked_permute}
use Rattle.selection.specs.Readied.{same_backend}
use Rattle.maglev_table.proofs.Steps.{eqb_false}
use Rattle.rollout_plan.specs.Laws.{TablesNameOnce, TurnsArePicks}
use Rattle.rollout_plan.specs.Tables.{turn_slots}

any_filtered : {X : Type 0} (p q : X → Bool) (xs : List X) → list_any p xs ≡ false → list_any p (filter q xs) ≡ false
any_filtered p q [] h = refl
any_filtered p q (x ∷ xs) h =
    let parts = or_parts (p x) (list_any p xs) h in
    elim (cases_Bool (q x)) [
      | inl kept ↦ rw kept (or_from (p x) (list_any p (filter q xs)) parts.0 (any_filtered p q xs parts.1))
      | inr left ↦ rw left (any_filtered p q xs parts.1)
    ]

double_filtered : {X : Type 0} (e : X → X → Bool) (q : X → Bool) (xs : List X) → has_double e xs ≡ false → has_double e (filter q xs) ≡ false
double_filtered e q [] h = refl
double_filtered e q (x ∷ xs) h =
    let parts = or_parts (list_any (e x) xs) (has_double e xs) h in
    elim (cases_Bool (q x)) [
      | inl kept ↦ rw kept (or_from (list_any (e x) (filter q xs)) (has_double e (filter q xs)) (any_filtered (e x) q xs parts.0) (double_filtered e q xs parts.1))
      | inr left ↦ rw left (double_filtered e q xs parts.1)
    ]

any_weaker : {X : Type 0} (p q : X → Bool) → ((x : X) → p x ≡ false → q x ≡ false) → (xs : List X) → list_any p xs ≡ false → list_any q xs ≡ false
any_weaker p q h [] e = refl
any_weaker p q h (x ∷ xs) e =
    let parts = or_parts (p x) (list_any p xs) e in
    or_from (q x) (list_any q xs) (h x parts.0) (any_weaker p q h xs parts.1)

double_weaker : {X : Type 0} (e f : X → X → Bool) → ((x y : X) → e x y ≡ false → f x y ≡ false) → (xs : List X) → has_double e xs ≡ false → has_double f xs ≡ false
double_weaker e f h [] d = refl
double_weaker e f h (x ∷ xs) d =
    let parts = or_parts (list_any (e x) xs) (has_double e xs) d in
    or_from (list_any (f x) xs) (has_double f xs) (any_weaker (e x) (f x) (h x) xs parts.0) (double_weaker e f h xs parts.1)

same_members : Member → Member → Bool
same_members m n = same_backend m.backend n.backend

other_names : (m n : Member) → same_name m n ≡ false → same_members m n ≡ false
unfolding same_members
other_names m n e = ap (λ (b : Bool). b && (m.backend.addr == n.backend.addr)) e

mapped_alike : (m n : Member) → same_backend m.backend n.backend ≡ same_members m n
unfolding same_members
mapped_alike m n = refl

pub tables_name_once : TablesNameOnce
tables_name_once rule ms e =
    let some : has_double same_name (up_members ms) ≡ false = double_filtered same_name (λ m. m.up) ms e in
    let names : has_double same_name (ranked ms) ≡ false = no_double_from_distinct same_name (ranked ms)
    (IsDistinct-IsPermutation same_name (λ m n. nat_list_eq_equiv.symm m.backend.name n.backend.name) (up_members ms) (ranked ms) (ranked_permute ms) (distinct_from_no_double same_name (up_members ms) some)) in
    double_mapped same_backend same_members (λ m. m.backend) mapped_alike (ranked ms) ∙ double_weaker same_name same_members other_names (ranked ms) names

pub turns_are_picks : TurnsArePicks
turns_are_picks size [] slot low = refl
turns_are_picks size (b ∷ bs) slot low =
    let some : (length (b ∷ bs) == 0) ≡ false = eqb_false (length (b ∷ bs)) 0 (λ e. omega (arith, e)) in
    let turns : turn_slots size (length (b ∷ bs)) ≡ map (λ s. s % length (b ∷ bs)) (range_with_len 0 size) = rw some refl in
    ap (slice_get (b ∷ bs)) (ap (λ (xs : List ℕ). get_or xs slot 0) turns ∙ get_or-map-range_with_len (λ s. s % length (b ∷ bs)) 0 size slot slot 0 low (omega arith))
