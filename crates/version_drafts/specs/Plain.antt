-- Services and versions as plain lists.
use Rattle.std.specs.Prelude.{ℕ, List, map, Option, option_map}
use Rattle.pool_versions.specs.declared.backend.Member.{Member}
use Rattle.pool_versions.specs.declared.service.Service.{Service}
use Rattle.pool_versions.specs.declared.service.Version.{Version}
use Rattle.pool_versions.specs.declared.key.ServiceKey.{ServiceKey}
use Rattle.scenario_keys.specs.Lookups.{all_of}

-- a service and a version, with plain lists
pub record PlainService (M : Type 0) : Type 0 where
  pub vip : ℕ
  pub proto : ℕ
  pub port : ℕ
  pub members : List M

pub record PlainVersion (M : Type 0) : Type 0 where
  pub number : ℕ
  pub services : List (PlainService M)

abbrev pub plain_service : Service → PlainService Member
plain_service s = record { vip = s.vip; proto = s.proto; port = s.port; members = s.members.items }

abbrev pub plain_version : Version → PlainVersion Member
plain_version v = record { number = v.number; services = map plain_service v.services.items }

-- what distinguishes a service
abbrev pub plain_key : PlainService Member → ServiceKey
plain_key s = record { vip = s.vip; proto = s.proto; port = s.port }

-- a service and a version, where each of their words is a member
abbrev pub service_of : PlainService (Option Member) → Option (PlainService Member)
service_of s = option_map (λ members. record { vip = s.vip; proto = s.proto; port = s.port; members = members }) (all_of (λ o. o) s.members)

abbrev pub version_of : PlainVersion (Option Member) → Option (PlainVersion Member)
version_of v = option_map (λ services. record { number = v.number; services = services }) (all_of service_of v.services)
