-- What was taken in keeps the limits.
use Rattle.std.proofs.Common.{◌≡◌, ℕ, ◌≤◌, Bool, true, false, cond, ◌||◌, List, [], ◌∷◌, length, map, Option, Some, None, find, refl, sym, arith, nat_lt, is_some, inl, inr, ◌==◌, ◌++◌, if◌then◌else◌}
use Rattle.std.specs.List.{list_any, All}
use Rattle.std.specs.List.Sorted.{IsPermutation}
use Rattle.std.proofs.lemmas.Bool.{or_parts, ltb-false, cases_Bool}
use Rattle.std.proofs.lemmas.List.Elements.{All-nil, All-cons, All-head, All-tail, All-push}
use Rattle.five_tuple.specs.declared.Flow.{Flow}
use Rattle.pool_versions.specs.Pool.{Pools, has_too_many, is_over, services_fault, fault_of, has_double, same_service, has_double_name, HasFewMembers, IsWithinLimits, same_number, AreSound, version_at, find_service, serves, AscendsByName, AreWeighed, up_backends, ranked, HasUps, HasWeights}
use Rattle.pool_versions.proofs.Ascending.{ranked_permute}
use Rattle.pool_versions.specs.declared.backend.Backend.{Backend}
use Rattle.pool_versions.specs.declared.service.Service.{Service}
use Rattle.pool_versions.specs.declared.service.Version.{Version}
use Rattle.pool_versions.specs.declared.catalogue.PoolFault.{PoolFault}
use Rattle.pool_versions.specs.declared.catalogue.PoolFault.TheVariants as fault

few_members : (size : ℕ) (s : Service) → has_too_many size s ≡ false → HasFewMembers size s
few_members size s h =
    let parts = or_parts (nat_lt 4096 (length s.members.items)) (nat_lt size (length s.members.items)) h in
    record { few = ltb-false _ _ parts.0; fit = ltb-false _ _ parts.1 }

few_in_all : (size : ℕ) (ss : List Service) → list_any (has_too_many size) ss ≡ false → All (HasFewMembers size) ss
few_in_all size [] h = All-nil (HasFewMembers size)
few_in_all size (s ∷ ss) h =
    let parts = or_parts (has_too_many size s) (list_any (has_too_many size) ss) h in
    All-cons (HasFewMembers size) s ss (few_members size s parts.0) (few_in_all size ss parts.1)

within_limits : (c : Pools) (v : Version) → All (λ s. AreWeighed s.members.items) v.services.items → is_over c v.services.items ≡ false → has_double same_service v.services.items ≡ false → list_any has_double_name v.services.items ≡ false → IsWithinLimits c.size v
unfolding is_over
within_limits c v weighed h apart named =
    let parts = or_parts (nat_lt 1023 (length c.versions) || nat_lt 256 (length v.services.items)) (list_any (has_too_many c.size) v.services.items) h in
    let counts = or_parts (nat_lt 1023 (length c.versions)) (nat_lt 256 (length v.services.items)) parts.0 in
    record { services = ltb-false _ _ counts.1; members = few_in_all c.size v.services.items parts.1; apart = apart; named = named; weighed = weighed }

-- what a chain of tests says where it found nothing
passed : (b : Bool) (f : PoolFault) (o : Option PoolFault) → cond b (Some f) o ≡ None → (b ≡ false) × (o ≡ None)
passed true f o h = absurd cc
passed false f o h = (refl, h)

services_within : (c : Pools) (v : Version) → All (λ s. AreWeighed s.members.items) v.services.items → services_fault c v.services.items ≡ None → IsWithinLimits c.size v
unfolding services_fault
services_within c v weighed h =
    let one_each = passed (has_double same_service v.services.items) fault.DoubleService (if list_any has_double_name v.services.items then Some fault.DoubleName else if is_over c v.services.items then Some fault.TooMany else None) h in
    let named = passed (list_any has_double_name v.services.items) fault.DoubleName (if is_over c v.services.items then Some fault.TooMany else None) one_each.1 in
    within_limits c v weighed (passed (is_over c v.services.items) fault.TooMany None named.1).0 one_each.0 named.0

-- a version without a fault keeps the limits
pub judged_within : (c : Pools) (v : Version) → All (λ s. AreWeighed s.members.items) v.services.items → fault_of c v ≡ None → IsWithinLimits c.size v
unfolding fault_of
judged_within c v weighed h =
    let numbered = passed (v.number == 0) fault.BadNumber (if is_some (version_at v.number c.versions) then Some fault.NumberTaken else services_fault c v.services.items) h in
    services_within c v weighed (passed (is_some (version_at v.number c.versions)) fault.NumberTaken (services_fault c v.services.items) numbered.1).1

-- a version without a fault has a number of its own
judged_new : (c : Pools) (v : Version) → fault_of c v ≡ None → is_some (version_at v.number c.versions) ≡ false
unfolding fault_of
judged_new c v h =
    let numbered = passed (v.number == 0) fault.BadNumber (if is_some (version_at v.number c.versions) then Some fault.NumberTaken else services_fault c v.services.items) h in
    (passed (is_some (version_at v.number c.versions)) fault.NumberTaken (services_fault c v.services.items) numbered.1).0

-- a number that isn't there yet comes last
none_alike : (x v : Version) (xs : List Version) → list_any (same_number x) xs ≡ false → same_number x v ≡ false → list_any (same_number x) (xs ++ v ∷ []) ≡ false
none_alike x v [] h k = go (same_number x v) k
  where
    go : (b : Bool) → b ≡ false → (b || false) ≡ false
    go true e = e
    go false e = refl
none_alike x v (y ∷ ys) h k = go (same_number x y) h (none_alike x v ys)
  where
    go : (b : Bool) → (b || list_any (same_number x) ys) ≡ false → (list_any (same_number x) ys ≡ false → same_number x v ≡ false → list_any (same_number x) (ys ++ v ∷ []) ≡ false) → (b || list_any (same_number x) (ys ++ v ∷ [])) ≡ false
    go true e i = e
    go false e i = i e k

numbers_push : (v : Version) (xs : List Version) → has_double same_number xs ≡ false → is_some (version_at v.number xs) ≡ false → has_double same_number (xs ++ v ∷ []) ≡ false
numbers_push v [] h k = refl
numbers_push v (x ∷ xs) h k = go (same_number x v) refl k (or_parts (list_any (same_number x) xs) (has_double same_number xs) h) (numbers_push v xs)
  where
    both : (a b : Bool) → a ≡ false → b ≡ false → (a || b) ≡ false
    both true b e f = e
    both false b e f = f

    go : (b : Bool) → same_number x v ≡ b → is_some (if b then Some x else version_at v.number xs) ≡ false → (list_any (same_number x) xs ≡ false) × (has_double same_number xs ≡ false) → (has_double same_number xs ≡ false → is_some (version_at v.number xs) ≡ false → has_double same_number (xs ++ v ∷ []) ≡ false) → (list_any (same_number x) (xs ++ v ∷ []) || has_double same_number (xs ++ v ∷ [])) ≡ false
    go true e n p i = absurd cc
    go false e n p i = both (list_any (same_number x) (xs ++ v ∷ [])) (has_double same_number (xs ++ v ∷ [])) (none_alike x v xs p.0 e) (i p.1 n)

pub none_sound : (size : ℕ) → AreSound (record { size = size; versions = [] })
none_sound size = record { limits = All-nil (IsWithinLimits size); numbers = refl }

-- one more version without a fault, or none
pub taken_keeps : (c : Pools) (v : Version) (taken : Bool) → All (λ s. AreWeighed s.members.items) v.services.items → AreSound c → (o : Option PoolFault) → o ≡ fault_of c v → ((f : PoolFault) → o ≡ Some f → ⊥) →
    AreSound (record { size = c.size; versions = if taken then c.versions ++ v ∷ [] else c.versions })
taken_keeps c v false weighed kept o e none = kept
taken_keeps c v true weighed kept None e none = record {
  limits = All-push (IsWithinLimits c.size) c.versions v kept.limits (judged_within c v weighed (sym e));
  numbers = numbers_push v c.versions kept.numbers (judged_new c v (sym e));
}
taken_keeps c v true weighed kept (Some f) e none = absurd (none f refl)

-- what holds of all holds of what is found
pub found_in_all : {X : Type 0} (P : X → Type 0) (test : X → Bool) (xs : List X) (x : X) → All P xs → find test xs ≡ Some x → P x
found_in_all P test [] x all e = absurd cc
found_in_all P test (y ∷ ys) x all e = elim (cases_Bool (test y)) [
  | inl passes ↦
      let e' = rw passes at e in
      let same : y ≡ x = cc in
      rw (← same) (All-head P y ys all)
  | inr fails ↦ let e' = rw fails at e in found_in_all P test ys x (All-tail P y ys all) e'
]

pub has_ups : (c : Pools) (n : ℕ) (x : Flow) (v : Version) (s : Service) (bs : List Backend) → version_at n c.versions ≡ Some v → IsWithinLimits c.size v → find_service x v.services.items ≡ Some s →
    AscendsByName bs → IsPermutation (up_backends s.members.items) bs → length bs ≤ length s.members.items → HasUps c n x bs
has_ups c n x v s bs numbered limits found ascending moved few =
    let kept = found_in_all (HasFewMembers c.size) (serves x) v.services.items s limits.members found in
    record { version = v; service = s; of_number = numbered; of_flow = found; ascending = ascending; permutation = moved; fit = omega (arith, kept.fit, few) }

pub has_weights : (c : Pools) (n : ℕ) (x : Flow) (v : Version) (s : Service) (ws : List ℕ) → version_at n c.versions ≡ Some v → find_service x v.services.items ≡ Some s → ws ≡ map (λ m. m.weight) (ranked s.members.items) → HasWeights c n x ws
has_weights c n x v s ws numbered found is = record {
  version = v;
  service = s;
  members = ranked s.members.items;
  of_number = numbered;
  of_flow = found;
  permutation = ranked_permute s.members.items;
  backends = rw (numbered, found) refl;
  weights = is;
}
