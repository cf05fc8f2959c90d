-- Versions have a place exactly where a catalogue refuses them.
use Rattle.std.proofs.Common.{arith, ◌≡◌, ℕ, ◌+◌, ◌==◌, nat_lt, nat_eq, Bool, true, false, cond, ◌||◌, List, [], ◌∷◌, ◌++◌, length, map, Option, Some, None, is_some, option_map, refl, sym, ap, ◌∙◌}
use Rattle.std.specs.List.{list_any}
use Rattle.std.specs.Option.{option_or}
use Rattle.std.specs.Cmp.Lexicographic.{pointwise}
use Rattle.pool_versions.specs.Pool.{has_double}
use Rattle.pool_versions.specs.declared.backend.Member.{Member}
use Rattle.pool_versions.specs.declared.catalogue.PoolFault.{PoolFault}
use Rattle.pool_versions.specs.declared.catalogue.PoolFault.TheVariants as fault
use Rattle.version_drafts.specs.Plain.{PlainService, PlainVersion}
use Rattle.scenario_places.specs.Adding.{same_flows, names_double, is_long, passes_limit, services_refused, version_refused, first_refused}
use Rattle.scenario_keys.specs.declared.key.Key.TheVariants as key
use Rattle.version_drafts.specs.declared.place.Flaw.TheVariants as flaw
use Rattle.version_drafts.specs.declared.place.Place.{Place}
use Rattle.version_drafts.specs.declared.place.Place.TheVariants as place
use Rattle.scenario_places.specs.PoolPlaces.{double_from, first_double, key_of, same_key, double_service, double_member, double_name_from, most_members, long_from, over_place, services_place, version_place, pool_from, OnePlaceOrACatalogue}
use Rattle.scenario_places.proofs.Items.{some_map}

-- a set has the keys of a list, by their equality
abbrev pub HasThose : {K : Type 0} → (K → K → Bool) → (K → Bool) → List K → Type 0
HasThose eq has ks = (k : _) → has k ≡ list_any (λ y. eq y k) ks

or_assoc : (a b c : Bool) → ((a || b) || c) ≡ (a || (b || c))
or_assoc true b c = refl
or_assoc false b c = refl

or_swap : (a b c : Bool) → (a || (b || c)) ≡ (b || (a || c))
or_swap true true c = refl
or_swap true false c = refl
or_swap false b c = refl

some_or : {A : Type 0} (a b : Option A) → is_some (option_or a b) ≡ (is_some a || is_some b)
some_or None b = refl
some_or (Some x) b = refl

some_if : {A : Type 0} (b : Bool) (x : A) (o : Option A) → is_some (cond b (Some x) o) ≡ (b || is_some o)
some_if true x o = refl
some_if false x o = refl

-- an element of a list has one before it among others, or one that stands in front of them all
any_or : {X : Type 0} (p q : X → Bool) (xs : List X) → list_any (λ z. q z || p z) xs ≡ (list_any q xs || list_any p xs)
any_or p q [] = refl
any_or p q (x ∷ xs) =
    ap (λ b. (q x || p x) || b) (any_or p q xs)
    ∙ or_assoc (q x) (p x) (list_any q xs || list_any p xs)
    ∙ ap (λ b. q x || b) (or_swap (p x) (list_any q xs) (list_any p xs))
    ∙ sym (or_assoc (q x) (list_any q xs) (p x || list_any p xs))

doubles_behind : {X : Type 0} (same : X → X → Bool) (earlier : List X) (n : ℕ) (xs : List X) → is_some (double_from same earlier n xs) ≡ (list_any (λ z. list_any (λ y. same y z) earlier) xs || has_double same xs)
doubles_behind same earlier n [] = refl
doubles_behind same earlier n (x ∷ xs) =
    let here = list_any (λ y. same y x) earlier in
    let later = list_any (λ z. list_any (λ y. same y z) earlier) xs in
    some_if here n (double_from same (x ∷ earlier) (n + 1) xs)
    ∙ ap (λ b. here || b) (doubles_behind same (x ∷ earlier) (n + 1) xs ∙ ap (λ b. b || has_double same xs) (any_or (λ z. list_any (λ y. same y z) earlier) (same x) xs)
    ∙ or_assoc (list_any (same x) xs) later (has_double same xs) ∙ or_swap (list_any (same x) xs) later (has_double same xs))
    ∙ sym (or_assoc here later (list_any (same x) xs || has_double same xs))

none_any : {X : Type 0} (xs : List X) → list_any (λ z. false) xs ≡ false
none_any [] = refl
none_any (x ∷ xs) = none_any xs

pub doubles : {X : Type 0} (same : X → X → Bool) (xs : List X) → is_some (first_double same xs) ≡ has_double same xs
doubles same xs = doubles_behind same [] 0 xs ∙ ap (λ b. b || has_double same xs) (none_any xs)

any_map : {X Y : Type 0} (test : Y → Bool) (f : X → Y) (xs : List X) → list_any test (map f xs) ≡ list_any (λ x. test (f x)) xs
any_map test f [] = refl
any_map test f (x ∷ xs) = ap (λ b. test (f x) || b) (any_map test f xs)

doubles_map : {X Y : Type 0} (same : Y → Y → Bool) (f : X → Y) (xs : List X) → has_double same (map f xs) ≡ has_double (λ a b. same (f a) (f b)) xs
doubles_map same f [] = refl
doubles_map same f (x ∷ xs) = ap (λ b. b || has_double same (map f xs)) (any_map (same (f x)) f xs) ∙ ap (λ b. list_any (λ y. same (f x) (f y)) xs || b) (doubles_map same f xs)

service_law : (v : ℕ) (ss : List (PlainService Member)) → is_some (double_service v ss) ≡ has_double same_flows ss
service_law v ss = some_map (λ n. place.Version v (flaw.Item key.Services n)) (first_double same_key (map key_of ss)) ∙ doubles same_key (map key_of ss) ∙ doubles_map same_key key_of ss

member_law : (s : PlainService Member) → is_some (double_member s) ≡ names_double s
member_law s = doubles (pointwise nat_eq) (map (λ (m : Member). m.backend.name) s.members) ∙ doubles_map (pointwise nat_eq) (λ (m : Member). m.backend.name) s.members

name_law : (v m : ℕ) (ss : List (PlainService Member)) → is_some (double_name_from v m ss) ≡ list_any names_double ss
name_law v m [] = refl
name_law v m (s ∷ ss) =
    let one : Option Place = option_map (λ n. place.Service v m (flaw.Item key.Members n)) (double_member s) in
    some_or one (double_name_from v (m + 1) ss)
    ∙ ap (λ b. b || is_some (double_name_from v (m + 1) ss)) (some_map (λ n. place.Service v m (flaw.Item key.Members n)) (double_member s) ∙ member_law s)
    ∙ ap (λ b. names_double s || b) (name_law v (m + 1) ss)

long_law : (size v m : ℕ) (ss : List (PlainService Member)) → is_some (long_from size v m ss) ≡ list_any (is_long size) ss
long_law size v m [] = refl
long_law size v m (s ∷ ss) = some_if (is_long size s) (place.Service v m (flaw.Item key.Members (most_members size))) (long_from size v (m + 1) ss) ∙ ap (λ b. is_long size s || b) (long_law size v (m + 1) ss)

over_law : (size : ℕ) (earlier : List (PlainVersion Member)) (v : ℕ) (ss : List (PlainService Member)) → v ≡ length earlier → is_some (over_place size v ss) ≡ passes_limit size earlier ss
over_law size earlier v ss e =
    some_if (nat_lt 1023 v) (place.Root (flaw.Item key.Versions v)) (cond (nat_lt 256 (length ss)) (Some (place.Version v (flaw.Item key.Services 256))) (long_from size v 0 ss))
    ∙ ap (λ b. nat_lt 1023 v || b) (some_if (nat_lt 256 (length ss)) (place.Version v (flaw.Item key.Services 256)) (long_from size v 0 ss) ∙ ap (λ b. nat_lt 256 (length ss) || b) (long_law size v 0 ss))
    ∙ sym (or_assoc (nat_lt 1023 v) (nat_lt 256 (length ss)) (list_any (is_long size) ss))
    ∙ ap (λ n. (nat_lt 1023 n || nat_lt 256 (length ss)) || list_any (is_long size) ss) e

three : (a b c : Bool) → is_some (cond a (Some fault.DoubleService) (cond b (Some fault.DoubleName) (cond c (Some fault.TooMany) None))) ≡ (a || (b || c))
three true b c = refl
three false true c = refl
three false false true = refl
three false false false = refl

services_law : (size : ℕ) (earlier : List (PlainVersion Member)) (v : ℕ) (ss : List (PlainService Member)) → v ≡ length earlier → is_some (services_place size v ss) ≡ is_some (services_refused size earlier ss)
unfolding services_refused
services_law size earlier v ss e =
    some_or (double_service v ss) (option_or (double_name_from v 0 ss) (over_place size v ss))
    ∙ ap (λ b. b || is_some (option_or (double_name_from v 0 ss) (over_place size v ss))) (service_law v ss)
    ∙ ap (λ b. has_double same_flows ss || b) (some_or (double_name_from v 0 ss) (over_place size v ss) ∙ ap (λ b. b || is_some (over_place size v ss)) (name_law v 0 ss) ∙ ap (λ b. list_any names_double ss || b) (over_law size earlier v ss e))
    ∙ sym (three (has_double same_flows ss) (list_any names_double ss) (passes_limit size earlier ss))

numbered : (a b : Bool) (o : Option PoolFault) → is_some (cond a (Some fault.BadNumber) (cond b (Some fault.NumberTaken) o)) ≡ ((a || b) || is_some o)
numbered true b o = refl
numbered false true o = refl
numbered false false o = refl

pub version_law : (size : ℕ) (earlier : List (PlainVersion Member)) (v : ℕ) (x : PlainVersion Member) → v ≡ length earlier → is_some (version_place size earlier v x) ≡ is_some (version_refused size earlier x)
unfolding version_refused
version_law size earlier v x e =
    let zero = x.number == 0 in
    let taken = list_any (λ (w : PlainVersion Member). w.number == x.number) earlier in
    some_if (zero || taken) (place.Version v (flaw.Value key.Number)) (services_place size v x.services)
    ∙ ap (λ b. (zero || taken) || b) (services_law size earlier v x.services e)
    ∙ sym (numbered zero taken (services_refused size earlier x.services))

pub one_longer : {X : Type 0} (xs : List X) (x : X) → length (xs ++ x ∷ []) ≡ length xs + 1
one_longer [] x = refl
one_longer (y ∷ ys) x = let r = one_longer ys x in omega (arith, r)

versions_law : (size : ℕ) (earlier : List (PlainVersion Member)) (v : ℕ) (vs : List (PlainVersion Member)) → v ≡ length earlier → is_some (pool_from size earlier v vs) ≡ is_some (first_refused size earlier vs)
versions_law size earlier v [] e = refl
versions_law size earlier v (x ∷ xs) e =
    some_or (version_place size earlier v x) (pool_from size (earlier ++ x ∷ []) (v + 1) xs)
    ∙ ap (λ b. b || is_some (pool_from size (earlier ++ x ∷ []) (v + 1) xs)) (version_law size earlier v x e)
    ∙ ap (λ b. is_some (version_refused size earlier x) || b) (versions_law size (earlier ++ x ∷ []) (v + 1) xs (ap (λ n. n + 1) e ∙ sym (one_longer earlier x)))
    ∙ sym (some_or (version_refused size earlier x) (first_refused size (earlier ++ x ∷ []) xs))

pub one_place : OnePlaceOrACatalogue
one_place size vs = versions_law size [] 0 vs refl
