-- Where the versions of a document can't be the versions of a catalogue.
use Rattle.std.specs.Prelude.{◌≡◌, ℕ, ◌+◌, Bool, ◌&&◌, ◌||◌, ◌==◌, nat_lt, nat_eq, if◌then◌else◌, List, [], ◌∷◌, ◌++◌, length, map, Option, Some, None}
use Rattle.std.specs.Prelude.{is_some, option_map}
use Rattle.std.specs.List.{list_any}
use Rattle.std.specs.Option.{option_or}
use Rattle.std.specs.Cmp.Lexicographic.{pointwise}
use Rattle.pool_versions.specs.declared.backend.Member.{Member}
use Rattle.version_drafts.specs.Plain.{PlainService, PlainVersion}
use Rattle.scenario_places.specs.Adding.{is_long, first_refused}
use Rattle.scenario_places.specs.declared.doubles.ServiceKey.{ServiceKey}
use Rattle.scenario_keys.specs.declared.key.Key.TheVariants as key
use Rattle.version_drafts.specs.declared.place.Flaw.TheVariants as flaw
use Rattle.version_drafts.specs.declared.place.Place.{Place}
use Rattle.version_drafts.specs.declared.place.Place.TheVariants as place

-- the number of the first element that is the same as an earlier one, by a test, the first being n, after some others
abbrev pub double_from : {X : Type 0} → (X → X → Bool) → List X → ℕ → List X → Option ℕ
double_from same earlier n [] = None
double_from same earlier n (x ∷ xs) = if list_any (λ y. same y x) earlier then Some n else double_from same (x ∷ earlier) (n + 1) xs

abbrev pub first_double : {X : Type 0} → (X → X → Bool) → List X → Option ℕ
first_double same xs = double_from same [] 0 xs

-- what distinguishes services
abbrev pub key_of : PlainService Member → ServiceKey
key_of s = record { vip = s.vip; proto = s.proto; port = s.port }

abbrev pub same_key : ServiceKey → ServiceKey → Bool
same_key a b = (a.vip == b.vip) && ((a.proto == b.proto) && (a.port == b.port))

-- the first service of a version that is for the flows of an earlier one
abbrev pub double_service : ℕ → List (PlainService Member) → Option Place
double_service v ss = option_map (λ n. place.Version v (flaw.Item key.Services n)) (first_double same_key (map key_of ss))

-- the first member of a service that has the name of an earlier one
abbrev pub double_member : PlainService Member → Option ℕ
double_member s = first_double (pointwise nat_eq) (map (λ m. m.backend.name) s.members)

-- the first such member in the services of a version, counted from m
abbrev pub double_name_from : ℕ → ℕ → List (PlainService Member) → Option Place
double_name_from v m [] = None
double_name_from v m (s ∷ ss) = option_or (option_map (λ n. place.Service v m (flaw.Item key.Members n)) (double_member s)) (double_name_from v (m + 1) ss)

-- how many members a service may have
abbrev pub most_members : ℕ → ℕ
most_members size = if nat_lt size 4096 then size else 4096

-- the first member past the limit, in the services of a version, counted from m
abbrev pub long_from : ℕ → ℕ → ℕ → List (PlainService Member) → Option Place
long_from size v m [] = None
long_from size v m (s ∷ ss) = if is_long size s then Some (place.Service v m (flaw.Item key.Members (most_members size))) else long_from size v (m + 1) ss

-- where version v, which so many others precede, passes a limit
abbrev pub over_place : ℕ → ℕ → List (PlainService Member) → Option Place
over_place size v ss =
    if nat_lt 1023 v then Some (place.Root (flaw.Item key.Versions v)) else
    if nat_lt 256 (length ss) then Some (place.Version v (flaw.Item key.Services 256)) else long_from size v 0 ss

abbrev pub services_place : ℕ → ℕ → List (PlainService Member) → Option Place
services_place size v ss = option_or (double_service v ss) (option_or (double_name_from v 0 ss) (over_place size v ss))

-- where version v can't follow others
abbrev pub version_place : ℕ → List (PlainVersion Member) → ℕ → PlainVersion Member → Option Place
version_place size earlier v x =
    if (x.number == 0) || list_any (λ w. w.number == x.number) earlier then Some (place.Version v (flaw.Value key.Number)) else services_place size v x.services

-- the first place in versions that are added in order to others, the first being v
abbrev pub pool_from : ℕ → List (PlainVersion Member) → ℕ → List (PlainVersion Member) → Option Place
pool_from size earlier v [] = None
pool_from size earlier v (x ∷ xs) = option_or (version_place size earlier v x) (pool_from size (earlier ++ x ∷ []) (v + 1) xs)

abbrev pub pool_place_of : ℕ → List (PlainVersion Member) → Option Place
pool_place_of size vs = pool_from size [] 0 vs

-- versions have such a place, or a catalogue takes them one after another
abbrev pub OnePlaceOrACatalogue : Type 0
OnePlaceOrACatalogue = (size : ℕ) (vs : List (PlainVersion Member)) → is_some (pool_place_of size vs) ≡ is_some (first_refused size [] vs)
