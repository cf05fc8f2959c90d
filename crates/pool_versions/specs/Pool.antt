-- What a catalogue represents.
use Rattle.std.specs.Prelude.{◌≡◌, ℕ, ◌≤◌, Bool, false, not, ◌&&◌, ◌||◌, ◌==◌, nat_lt, nat_eq, if◌then◌else◌, List, [], ◌∷◌, length, map, filter, find}
use Rattle.std.specs.Prelude.{Option, Some, None, option_map, option_and_then, is_some, Result, Ok, Err, ◌⊎◌}
use Rattle.std.specs.List.{list_any, All}
use Rattle.std.specs.List.Sorted.{IsSortedByKey, IsPermutation}
use Rattle.std.specs.Ordering.{nat_cmp, is_lt}
use Rattle.std.specs.Cmp.Lexicographic.{slice_cmp, pointwise}
use Rattle.five_tuple.specs.declared.Flow.{Flow}
use Rattle.pool_versions.specs.declared.backend.Backend.{Backend}
use Rattle.pool_versions.specs.declared.backend.Member.{Member}
use Rattle.pool_versions.specs.declared.service.Service.{Service}
use Rattle.pool_versions.specs.declared.service.Version.{Version}
use Rattle.pool_versions.specs.declared.key.ServiceKey.{ServiceKey}
use Rattle.pool_versions.specs.declared.catalogue.PoolFault.{PoolFault}
use Rattle.pool_versions.specs.declared.catalogue.PoolFault.TheVariants as fault
use Rattle.pool_versions.specs.declared.catalogue.RefusedVersion.{RefusedVersion}

-- the size of the tables, and the versions in the order in which they were added
pub record Pools : Type 0 where
  pub size : ℕ
  pub versions : List Version

-- the version of a number
abbrev pub version_at : ℕ → List Version → Option Version
version_at n = find (λ v. v.number == n)

-- two services are for the same flows
abbrev pub same_service : Service → Service → Bool
same_service a b = (a.vip == b.vip) && ((a.proto == b.proto) && (a.port == b.port))

-- what distinguishes services
abbrev pub key_of : Service → ServiceKey
key_of s = record { vip = s.vip; proto = s.proto; port = s.port }

-- that of the services that a flow is of
abbrev pub key_of_flow : Flow → ServiceKey
key_of_flow x = record { vip = x.dst; proto = x.proto; port = x.dport }

-- two keys are equal
abbrev pub same_key : ServiceKey → ServiceKey → Bool
same_key a b = (a.vip == b.vip) && ((a.proto == b.proto) && (a.port == b.port))

abbrev pub service_keys : List Service → List ServiceKey
service_keys = map key_of

-- two members have one name
abbrev pub same_name : Member → Member → Bool
same_name a b = pointwise nat_eq a.backend.name b.backend.name

abbrev pub member_names : List Member → List (List ℕ)
member_names = map (λ m. m.backend.name)

-- two places of the list have the same, by a test
abbrev pub has_double : {X : Type 0} → (X → X → Bool) → List X → Bool
has_double same [] = false
has_double same (x ∷ xs) = list_any (same x) xs || has_double same xs

abbrev pub has_double_name : Service → Bool
has_double_name s = has_double same_name s.members.items

-- more members than a service may have, or than there are slots
abbrev pub has_too_many : ℕ → Service → Bool
has_too_many size s = nat_lt 4096 (length s.members.items) || nat_lt size (length s.members.items)

-- one more version of these services passes a limit
unfoldable pub is_over : Pools → List Service → Bool
is_over c services = (nat_lt 1023 (length c.versions) || nat_lt 256 (length services)) || list_any (has_too_many c.size) services

-- the first fault of a version's services
unfoldable pub services_fault : Pools → List Service → Option PoolFault
services_fault c services =
    if has_double same_service services then Some fault.DoubleService else
    if list_any has_double_name services then Some fault.DoubleName else
    if is_over c services then Some fault.TooMany else None

-- the first fault of a version
unfoldable pub fault_of : Pools → Version → Option PoolFault
fault_of c v =
    if v.number == 0 then Some fault.BadNumber else
    if is_some (version_at v.number c.versions) then Some fault.NumberTaken else
    services_fault c v.services.items

-- the answer is the fault, if there is one, and else Ok or out of memory
abbrev pub RefusedAs : {E : Type 0} → Result E PoolFault → Option PoolFault → Type 0
RefusedAs (Ok _) f = f ≡ None
RefusedAs (Err e) f = (f ≡ Some e) ⊎ ((e ≡ fault.Memory) × (f ≡ None))

-- The same of an offer, whose fault comes with the version.
abbrev pub GivenBackAs : {E : Type 0} → Version → Result E RefusedVersion → Option PoolFault → Type 0
GivenBackAs v (Ok _) f = f ≡ None
GivenBackAs v (Err r) f = (r.version ≡ v) × ((f ≡ Some r.fault) ⊎ ((r.fault ≡ fault.Memory) × (f ≡ None)))

-- a service has no more members than it may have, and no more than there are slots
pub record HasFewMembers (size : ℕ) (s : Service) : Type 0 where
  pub few : length s.members.items ≤ 4096
  pub fit : length s.members.items ≤ size

-- each member's weight is one
abbrev pub AreWeighed : List Member → Type 0
AreWeighed ms = All (λ m. (1 ≤ m.weight) × (m.weight ≤ 16)) ms

-- A version keeps the limits that do not depend on the other versions. It has few services, no two of which are for the same
-- flows. Each has few members, no two of which have one name.
pub record IsWithinLimits (size : ℕ) (v : Version) : Type 0 where
  pub services : length v.services.items ≤ 256
  pub members : All (HasFewMembers size) v.services.items
  pub apart : has_double same_service v.services.items ≡ false
  pub named : list_any has_double_name v.services.items ≡ false
  pub weighed : All (λ s. AreWeighed s.members.items) v.services.items

-- two versions have one number
abbrev pub same_number : Version → Version → Bool
same_number a b = a.number == b.number

-- the versions of a catalogue keep the limits, and no two have one number
pub record AreSound (c : Pools) : Type 0 where
  pub limits : All (IsWithinLimits c.size) c.versions
  pub numbers : has_double same_number c.versions ≡ false

-- the flow is the service's
abbrev pub serves : Flow → Service → Bool
serves x s = (s.vip == x.dst) && ((s.proto == x.proto) && (s.port == x.dport))

-- the first service of a flow
abbrev pub find_service : Flow → List Service → Option Service
find_service x = find (serves x)

-- the first name is below the second, in byte order
abbrev pub is_below : List ℕ → List ℕ → Bool
is_below a b = is_lt (slice_cmp nat_cmp a b)

-- no name is below the one before it
abbrev pub AscendsByName : List Backend → Type 0
AscendsByName = IsSortedByKey (λ b. b.name) (slice_cmp nat_cmp)

-- no member's name is below that of the one before it
abbrev pub MembersAscend : List Member → Type 0
MembersAscend = IsSortedByKey (λ m. m.backend.name) (slice_cmp nat_cmp)

-- a member goes into its place by name
abbrev pub insert_by_name : Member → List Member → List Member
insert_by_name m [] = m ∷ []
insert_by_name m (n ∷ ns) = if is_below m.backend.name n.backend.name then m ∷ n ∷ ns else n ∷ insert_by_name m ns

-- the members in ascending byte order of name, with those of a sorted list
abbrev pub ascending_with : List Member → List Member → List Member
ascending_with sorted [] = sorted
ascending_with sorted (m ∷ ms) = ascending_with (insert_by_name m sorted) ms

-- the up members, in their order
abbrev pub up_members : List Member → List Member
up_members ms = filter (λ m. m.up) ms

-- their backends, in the members' order
abbrev pub up_backends : List Member → List Backend
up_backends ms = map (λ m. m.backend) (up_members ms)

-- the up members, in ascending byte order of name
abbrev pub ranked : List Member → List Member
ranked ms = ascending_with [] (up_members ms)

-- the backends of the up members, in ascending byte order of name
abbrev pub ups : List Member → List Backend
ups ms = map (λ m. m.backend) (ranked ms)

-- a member takes no turns, and keeps the connections that it has
abbrev pub is_draining : Member → Bool
is_draining m = not m.up && m.draining

-- the members that drain, in their order
abbrev pub draining_members : List Member → List Member
draining_members ms = filter is_draining ms

-- the backends of the members that drain, in ascending byte order of name
abbrev pub draining_backends : List Member → List Backend
draining_backends ms = map (λ m. m.backend) (ascending_with [] (draining_members ms))

-- the weights of the up backends, in their order
abbrev pub weights : List Member → List ℕ
weights ms = map (λ m. m.weight) (ranked ms)

-- the up backends of a flow's service under a version
abbrev pub ups_under : Version → Flow → Option (List Backend)
ups_under v x = option_map (λ s. ups s.members.items) (find_service x v.services.items)

-- the up backends of a flow's service under the version of a number
abbrev pub up_of : Pools → ℕ → Flow → Option (List Backend)
up_of c n x = option_and_then (λ v. ups_under v x) (version_at n c.versions)

-- the weights of these, in their order
abbrev pub weights_under : Version → Flow → Option (List ℕ)
weights_under v x = option_map (λ s. weights s.members.items) (find_service x v.services.items)

abbrev pub weights_of : Pools → ℕ → Flow → Option (List ℕ)
weights_of c n x = option_and_then (λ v. weights_under v x) (version_at n c.versions)

-- some backends are the up members of a flow's service in ascending order, and no more than there are slots
pub record HasUps (c : Pools) (n : ℕ) (x : Flow) (bs : List Backend) : Type 0 where
  pub version : Version
  pub service : Service
  pub of_number : version_at n c.versions ≡ Some version
  pub of_flow : find_service x version.services.items ≡ Some service
  pub ascending : AscendsByName bs
  pub permutation : IsPermutation (up_backends service.members.items) bs
  pub fit : length bs ≤ c.size

-- Some weights are those of the up backends of a flow's service, in their order. Of the up members in some order these are
-- the backends, and those are the weights.
pub record HasWeights (c : Pools) (n : ℕ) (x : Flow) (ws : List ℕ) : Type 0 where
  pub version : Version
  pub service : Service
  pub members : List Member
  pub of_number : version_at n c.versions ≡ Some version
  pub of_flow : find_service x version.services.items ≡ Some service
  pub permutation : IsPermutation (up_members service.members.items) members
  pub backends : up_of c n x ≡ Some (map (λ m. m.backend) members)
  pub weights : ws ≡ map (λ m. m.weight) members
