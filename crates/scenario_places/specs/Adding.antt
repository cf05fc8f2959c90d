-- The faults of adding versions in order.
use Rattle.std.specs.Prelude.{ℕ, Bool, ◌&&◌, ◌||◌, ◌==◌, nat_lt, if◌then◌else◌, List, [], ◌∷◌, ◌++◌, length, Option, Some, None}
use Rattle.std.specs.List.{list_any}
use Rattle.std.specs.Option.{option_or}
use Rattle.pool_versions.specs.Pool.{has_double, same_name}
use Rattle.pool_versions.specs.declared.backend.Member.{Member}
use Rattle.pool_versions.specs.declared.catalogue.PoolFault.{PoolFault}
use Rattle.version_drafts.specs.Plain.{PlainService, PlainVersion}
use Rattle.pool_versions.specs.declared.catalogue.PoolFault.TheVariants as fault

-- two services are for the same flows
abbrev pub same_flows : PlainService Member → PlainService Member → Bool
same_flows a b = (a.vip == b.vip) && ((a.proto == b.proto) && (a.port == b.port))

abbrev pub names_double : PlainService Member → Bool
names_double s = has_double same_name s.members

-- more members than a service may have, or than there are slots
abbrev pub is_long : ℕ → PlainService Member → Bool
is_long size s = nat_lt 4096 (length s.members) || nat_lt size (length s.members)

-- one more version beside others passes a limit
abbrev pub passes_limit : ℕ → List (PlainVersion Member) → List (PlainService Member) → Bool
passes_limit size earlier services = (nat_lt 1023 (length earlier) || nat_lt 256 (length services)) || list_any (is_long size) services

-- the first fault of some services beside other versions
unfoldable pub services_refused : ℕ → List (PlainVersion Member) → List (PlainService Member) → Option PoolFault
services_refused size earlier services =
    if has_double same_flows services then Some fault.DoubleService else
    if list_any names_double services then Some fault.DoubleName else
    if passes_limit size earlier services then Some fault.TooMany else None

-- the first fault of a version beside others
unfoldable pub version_refused : ℕ → List (PlainVersion Member) → PlainVersion Member → Option PoolFault
version_refused size earlier v =
    if v.number == 0 then Some fault.BadNumber else
    if list_any (λ w. w.number == v.number) earlier then Some fault.NumberTaken else
    services_refused size earlier v.services

-- the first fault of versions that are added in order to others
abbrev pub first_refused : ℕ → List (PlainVersion Member) → List (PlainVersion Member) → Option PoolFault
first_refused size earlier [] = None
first_refused size earlier (v ∷ vs) = option_or (version_refused size earlier v) (first_refused size (earlier ++ v ∷ []) vs)
