-- Whose share it is, and in which order shares come.
use Rattle.std.specs.Prelude.{ℕ, ◌==◌, ◌&&◌, Bool, true, false, List, [], ◌∷◌, nat_eq, nat_lt, if◌then◌else◌}
use Rattle.std.specs.Cmp.Lexicographic.{pointwise}
use Rattle.pool_versions.specs.declared.backend.Backend.{Backend}
use Rattle.pool_versions.specs.Pool.{is_below}
use Rattle.traffic_shares.specs.declared.holders.Holder.{Holder}
use Rattle.traffic_shares.specs.declared.holders.Holder.TheVariants as holders
use Rattle.traffic_shares.specs.declared.holders.ShareKey.{ShareKey}
use Rattle.traffic_shares.specs.declared.holders.ShareKind.{ShareKind}
use Rattle.traffic_shares.specs.declared.holders.ShareKind.TheVariants.{Backends, Nodes}
use Rattle.traffic_shares.specs.declared.sends.Sent.{Sent}

abbrev pub holder_of : ShareKind → Sent → Holder
holder_of Backends s = holders.Backend s.backend
holder_of Nodes s = holders.Node s.node

-- whose share a packet belongs to
abbrev pub key_of : ShareKind → Sent → ShareKey
key_of kind s = record { version = s.version; holder = holder_of kind s }

-- an address, or a node's place
abbrev pub number_of : Holder → ℕ
number_of (holders.Backend b) = b.addr
number_of (holders.Node n) = n

abbrev pub same_holder : Holder → Holder → Bool
same_holder (holders.Backend a) (holders.Backend b) = pointwise nat_eq a.name b.name && (a.addr == b.addr)
same_holder (holders.Backend a) (holders.Node m) = false
same_holder (holders.Node n) (holders.Backend b) = false
same_holder (holders.Node n) (holders.Node m) = n == m

abbrev pub same_share : ShareKey → ShareKey → Bool
same_share a b = (a.version == b.version) && same_holder a.holder b.holder

-- by name in byte order, and then by address
abbrev pub is_backend_before : Backend → Backend → Bool
is_backend_before a b = if pointwise nat_eq a.name b.name then nat_lt a.addr b.addr else is_below a.name b.name

-- nodes by place, behind the backends
abbrev pub is_holder_before : Holder → Holder → Bool
is_holder_before (holders.Backend a) (holders.Backend b) = is_backend_before a b
is_holder_before (holders.Backend a) (holders.Node m) = true
is_holder_before (holders.Node n) (holders.Backend b) = false
is_holder_before (holders.Node n) (holders.Node m) = nat_lt n m

-- by version first
abbrev pub is_before : ShareKey → ShareKey → Bool
is_before a b = if a.version == b.version then is_holder_before a.holder b.holder else nat_lt a.version b.version

-- one goes in before the first that it comes before
abbrev pub placed : ShareKey → List ShareKey → List ShareKey
placed key [] = key ∷ []
placed key (k ∷ ks) = if is_before key k then key ∷ k ∷ ks else k ∷ placed key ks
