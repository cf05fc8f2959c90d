-- Two versions are the same.
use Rattle.std.specs.Prelude.{◌≡◌, ℕ, List, map}
use Rattle.pool_versions.specs.declared.backend.Member.{Member}
use Rattle.pool_versions.specs.declared.service.Service.{Service}
use Rattle.pool_versions.specs.declared.service.Version.{Version}

-- what a service is: its address, protocol and port, and its members in order
pub record Parts : Type 0 where
  pub vip : ℕ
  pub proto : ℕ
  pub port : ℕ
  pub members : List Member

abbrev pub parts_of : Service → Parts
parts_of s = record { vip = s.vip; proto = s.proto; port = s.port; members = s.members.items }

-- they have one number, and the same services in order
pub record AreSame (a b : Version) : Type 0 where
  pub number : a.number ≡ b.number
  pub services : map parts_of a.services.items ≡ map parts_of b.services.items
