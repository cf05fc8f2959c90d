-- The lines of the command `plan`, as lists of bytes, and whose lines these are.
use Rattle.std.specs.Prelude.{ℕ, Bool, true, false, not, List, [], ◌∷◌, ◌++◌, map, filter, find, Option, Some, None, codes}
use Rattle.std.specs.List.{list_any}
use Rattle.std.specs.Fmt.{decimal}
use Rattle.maglev_texts.specs.Printing.{backend_text, end_text, protocol_text}
use Rattle.pool_versions.specs.declared.backend.Backend.{Backend}
use Rattle.pool_versions.specs.declared.backend.Member.{Member}
use Rattle.pool_versions.specs.declared.key.ServiceKey.{ServiceKey}
use Rattle.pool_versions.specs.declared.service.Service.{Service}
use Rattle.pool_versions.specs.declared.service.Version.{Version}
use Rattle.pool_versions.specs.Pool.{key_of, same_key, ranked}
use Rattle.selection.specs.Picks.{NamedTable}
use Rattle.selection.specs.Readied.{same_backend}
use Rattle.rollout_plan.specs.Counts.{slots_naming, is_up, drains, changed, down, moved, drained, least}

-- a backend is that of one of some members
abbrev pub has_member : List Member → Backend → Bool
has_member ms b = list_any (λ m. same_backend m.backend b) ms

-- the members whose backend the other list lacks
abbrev pub members_gone : List Member → List Member → List Member
members_gone before after = filter (λ m. not (has_member after m.backend)) before

-- a member as one that is up
abbrev pub as_up : Member → Member
as_up m = record m { up = true }

-- some members in ascending order of name, whether they are up or down
abbrev pub in_order : List Member → List Member
in_order ms = ranked (map as_up ms)

-- the members of either list, each backend once: those of the second as they are there
abbrev pub members_of_both : List Member → List Member → List Member
members_of_both before after = in_order (members_gone before after ++ after)

-- the service that a key is of
abbrev pub service_by : ServiceKey → Version → Option Service
service_by key v = find (λ s. same_key (key_of s) key) v.services.items

abbrev pub members_in : Option Service → List Member
members_in None = []
members_in (Some s) = s.members.items

-- its members under a version, none where the version lacks it
abbrev pub members_under : ServiceKey → Version → List Member
members_under key v = members_in (service_by key v)

-- `ADDRESS:PORT/PROTOCOL`
abbrev pub service_word : ServiceKey → List ℕ
service_word key = end_text key.vip key.port ++ (codes "/" ++ protocol_text key.proto)

-- `service ADDRESS:PORT/PROTOCOL`
unfoldable pub service_line : ServiceKey → List ℕ
service_line key = codes "service " ++ (service_word key ++ codes "\n")

-- what stands behind a backend that isn't up, whether it drains or not
abbrev pub state_text : Bool → Bool → List ℕ
state_text true drains = []
state_text false true = codes " drain"
state_text false false = codes " down"

-- a count that is told where some drain
abbrev pub told : List Backend → ℕ → Option ℕ
told [] n = None
told (d ∷ ds) n = Some n

-- ` drained N`, where it is told
abbrev pub drained_text : Option ℕ → List ℕ
drained_text None = []
drained_text (Some n) = codes " drained " ++ decimal n

-- `slots M changed C down D moved V least L`, and ` drained N` where a member drains after
unfoldable pub counts_line : NamedTable → NamedTable → List Backend → List ℕ
counts_line before after draining =
    codes "slots " ++ (decimal before.size ++ (codes " changed " ++ (decimal (changed before after) ++ (codes " down " ++ (
    decimal (down before after draining) ++ (codes " moved " ++ (decimal (moved before after) ++ (codes " least " ++ (
    decimal (least before after) ++ (drained_text (told draining (drained before after draining)) ++ codes "\n"))))))))))

-- `BACKEND weight W before N after N`, and ` drain` or ` down` where it isn't up after
unfoldable pub change_line : NamedTable → NamedTable → List Backend → Member → List ℕ
change_line before after draining m =
    backend_text m.backend ++ (codes " weight " ++ (decimal m.weight ++ (codes " before " ++ (decimal (slots_naming (Some m.backend) before) ++ (
    codes " after " ++ (decimal (slots_naming (Some m.backend) after) ++ (
    state_text (is_up after m.backend) (drains draining m.backend) ++ codes "\n")))))))

-- a version has the service of a key
abbrev pub has_service : ServiceKey → Version → Bool
has_service key v = list_any (λ s. same_key (key_of s) key) v.services.items

-- the services that another version lacks
abbrev pub services_gone : List Service → Version → List Service
services_gone before after = filter (λ s. not (has_service (key_of s) after)) before

-- `slots M`
abbrev pub slots_line : ℕ → List ℕ
slots_line size = codes "slots " ++ (decimal size ++ codes "\n")

-- `BACKEND weight W slots N`, and ` drain` or ` down` where it isn't up
unfoldable pub backend_line : NamedTable → List Backend → Member → List ℕ
backend_line t draining m =
    backend_text m.backend ++ (codes " weight " ++ (decimal m.weight ++ (codes " slots " ++ (decimal (slots_naming (Some m.backend) t) ++ (
    state_text (is_up t m.backend) (drains draining m.backend) ++ codes "\n")))))
