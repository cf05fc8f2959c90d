-- How changes change members, one after another.
use Rattle.std.specs.Prelude.{ℕ, Bool, true, if◌then◌else◌, List, [], ◌∷◌, map, Option, Some, None, option_and_then}
use Rattle.std.specs.List.{list_any}
use Rattle.pool_versions.specs.declared.backend.Member.{Member}
use Rattle.version_drafts.specs.Plain.{PlainService}
use Rattle.version_drafts.specs.Changes.{is_of, changed_by, changed_name}
use Rattle.version_drafts.specs.declared.change.Change.{Change}

-- a member has the name that is looked for, if one is
abbrev pub has_member : Option (List ℕ) → List Member → Bool
has_member None ms = true
has_member (Some name) ms = list_any (is_of name) ms

-- some members after changes, one after another. None where one is no change, or no member has its name at that point.
abbrev pub changed : List (Option Change) → List Member → Option (List Member)
changed [] ms = Some ms
changed (o ∷ os) ms = option_and_then (λ c. if has_member (changed_name c) ms then changed os (changed_by c ms) else None) o

-- a service after a change
abbrev pub service_changed_by : Change → PlainService Member → PlainService Member
service_changed_by c s = record { vip = s.vip; proto = s.proto; port = s.port; members = changed_by c s.members }

-- at least one service has a member of the name that is looked for, if one is
abbrev pub some_has_member : Option (List ℕ) → List (PlainService Member) → Bool
some_has_member None ss = true
some_has_member (Some name) ss = list_any (λ s. list_any (is_of name) s.members) ss

-- all services after changes, one after another. None where one is no change, or no service has a member of its name at that point.
abbrev pub all_changed : List (Option Change) → List (PlainService Member) → Option (List (PlainService Member))
all_changed [] ss = Some ss
all_changed (o ∷ os) ss = option_and_then (λ c. if some_has_member (changed_name c) ss then all_changed os (map (service_changed_by c) ss) else None) o
