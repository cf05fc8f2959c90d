-- What a prepared version represents.
use Rattle.std.specs.Prelude.{◌≡◌, ℕ, Bool, ◌&&◌, ◌||◌, ◌==◌, nat_eq, nat_lt, List, [], ◌∷◌, map, find, length, Option, option_map, Contains, IsSomeAnd}
use Rattle.std.specs.Cmp.Lexicographic.{pointwise}
use Rattle.std.specs.List.{list_any}
use Rattle.five_tuple.specs.declared.Flow.{Flow}
use Rattle.pool_versions.specs.declared.backend.Backend.{Backend}
use Rattle.pool_versions.specs.declared.service.Service.{Service}
use Rattle.pool_versions.specs.declared.service.Version.{Version}
use Rattle.pool_versions.specs.Pool.{ups}
use Rattle.pool_versions.specs.Same.{Parts, parts_of}
use Rattle.selection.specs.Candidates.{Candidates, candidates_in}

-- a service with its up backends and their weights, for a scheme and a size
pub record ReadiedService (S : Type 0) : Type 0 where
  pub scheme : S
  pub size : ℕ
  pub vip : ℕ
  pub proto : ℕ
  pub port : ℕ
  pub ups : Candidates

-- the flow is the service's
abbrev pub serves_readied : {S : Type 0} → Flow → ReadiedService S → Bool
serves_readied x s = (s.vip == x.dst) && ((s.proto == x.proto) && (s.port == x.dport))

abbrev pub readied_of : {S : Type 0} → S → ℕ → Service → ReadiedService S
readied_of scheme size s = record { scheme = scheme; size = size; vip = s.vip; proto = s.proto; port = s.port; ups = candidates_in s.members.items }

-- a version with its services, for a scheme and a size; and what it was made from, those that are down among it
pub record Readied (S : Type 0) : Type 0 where
  pub scheme : S
  pub size : ℕ
  pub number : ℕ
  pub services : List (ReadiedService S)
  pub source : List Parts

abbrev pub readied_version : {S : Type 0} → S → ℕ → Version → Readied S
readied_version scheme size v = record {
  scheme = scheme;
  size = size;
  number = v.number;
  services = map (readied_of scheme size) v.services.items;
  source = map parts_of v.services.items;
}

-- each service is for the scheme and the size
abbrev pub AreFor : {S : Type 0} → S → ℕ → List (ReadiedService S) → Type 0
AreFor scheme size [] = Unit {0}
AreFor scheme size (s ∷ ss) = (s.scheme ≡ scheme) × (s.size ≡ size) × AreFor scheme size ss

-- the first service of a flow
abbrev pub ready_for : {S : Type 0} → Flow → List (ReadiedService S) → Option (ReadiedService S)
ready_for x = find (serves_readied x)

-- the candidates of the first service of a flow
abbrev pub ups_for : {S : Type 0} → Flow → List (ReadiedService S) → Option Candidates
ups_for x ss = option_map (λ s. s.ups) (ready_for x ss)

-- the two have one name and one address
abbrev pub same_backend : Backend → Backend → Bool
same_backend a b = pointwise nat_eq a.name b.name && (a.addr == b.addr)

-- a flow that has a backend keeps it: the backend is up or drains
abbrev pub keeps : Backend → Candidates → Bool
keeps b c = list_any (same_backend b) c.backends || list_any (same_backend b) c.draining

-- a backend is among the up members of the flow's service
abbrev pub IsUpFor : {S : Type 0} → Flow → Backend → List (ReadiedService S) → Type 0
IsUpFor x b ss = IsSomeAnd (ups_for x ss) (λ c. Contains c.backends b)

-- a service has more up backends than there are slots
abbrev pub has_more_ups : ℕ → Service → Bool
has_more_ups size s = nat_lt size (length (ups s.members.items))
