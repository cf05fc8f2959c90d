-- Which versions drafts mean, written out.
use Rattle.std.specs.Prelude.{◌≡◌, ℕ, ◌+◌, ◌-◌, Bool, false, ◌==◌, nat_lt, if◌then◌else◌, List, [], ◌∷◌, ◌++◌, length, find, Option, Some, None, is_none}
use Rattle.std.specs.Prelude.{is_some, option_and_then, option_map, unwrap_or, Result, Ok, Err, ⊤}
use Rattle.std.specs.List.{list_any, count_by}
use Rattle.std.specs.Option.{ok_or}
use Rattle.pool_versions.specs.declared.backend.Member.{Member}
use Rattle.pool_versions.specs.Pool.{same_key}
use Rattle.scenario_keys.specs.Lookups.{all_of}
use Rattle.version_drafts.specs.Plain.{PlainService, PlainVersion, plain_key}
use Rattle.version_drafts.specs.Changes.{changed_name}
use Rattle.scenario_pools.specs.Changes.{changed, all_changed}
use Rattle.version_drafts.specs.Drafts.{PlainServiceDraft, PlainVersionDraft, draft_key}
use Rattle.version_drafts.specs.declared.change.Change.{Change}
use Rattle.scenario_pools.specs.declared.fault.PoolsFault.{PoolsFault}
use Rattle.scenario_pools.specs.declared.fault.PoolsFault.TheVariants as fault

-- the service of a draft with these words, where each is a member
abbrev pub stated_with : PlainServiceDraft → List (Option Member) → Option (PlainService Member)
stated_with d words = option_map (λ members. record { vip = d.vip; proto = d.proto; port = d.port; members = members }) (all_of (λ o. o) words)

-- the service that a draft states, where it has members
abbrev pub stated : PlainServiceDraft → Option (PlainService Member)
stated d = option_and_then (stated_with d) d.members

-- a service stands in the place of the first that is for its flows, behind all where there is none
abbrev pub placed : PlainService Member → List (PlainService Member) → List (PlainService Member)
placed t [] = t ∷ []
placed t (s ∷ ss) = if same_key (plain_key t) (plain_key s) then t ∷ ss else s ∷ placed t ss

-- A stated service among others. Where a draft before it is for its flows too, it stands behind all, so that the catalogue
-- tells the double.
abbrev pub with_stated : List PlainServiceDraft → List (PlainService Member) → PlainService Member → List (PlainService Member)
with_stated before ss t = if list_any (λ d. same_key (draft_key d) (plain_key t)) before then ss ++ t ∷ [] else placed t ss

-- a service with other members
abbrev pub of_members : PlainService Member → List Member → PlainService Member
of_members s ms = record { vip = s.vip; proto = s.proto; port = s.port; members = ms }

-- a service with its members changed
abbrev pub changed_one : PlainServiceDraft → PlainService Member → Option (PlainService Member)
changed_one d s = option_map (of_members s) (changed d.changes s.members)

-- services, of which the first that a draft is for is changed; none where there is no such service
abbrev pub with_changed : PlainServiceDraft → List (PlainService Member) → Option (List (PlainService Member))
with_changed d [] = None
with_changed d (s ∷ ss) = if same_key (draft_key d) (plain_key s)
    then option_map (λ t. t ∷ ss) (changed_one d s)
    else option_map (λ rest. s ∷ rest) (with_changed d ss)

-- services with a draft, which has these words or is of changes
abbrev pub with_words : List PlainServiceDraft → PlainServiceDraft → List (PlainService Member) → Option (List (Option Member))
    → Option (List (PlainService Member))
with_words before d ss None = with_changed d ss
with_words before d ss (Some words) = option_map (with_stated before ss) (stated_with d words)

abbrev pub with_draft : List PlainServiceDraft → PlainServiceDraft → List (PlainService Member) → Option (List (PlainService Member))
with_draft before d ss = with_words before d ss d.members

-- services with drafts, one after another
abbrev pub with_drafts : List PlainServiceDraft → List PlainServiceDraft → List (PlainService Member) → Option (List (PlainService Member))
with_drafts before [] ss = Some ss
with_drafts before (d ∷ ds) ss = option_and_then (with_drafts (before ++ d ∷ []) ds) (with_draft before d ss)

-- a version with these services
abbrev pub numbered_with : ℕ → List (PlainService Member) → PlainVersion Member
numbered_with n ss = record { number = n; services = ss }

-- the version of a draft without a base
abbrev pub stated_version : PlainVersionDraft → Option (PlainVersion Member)
stated_version d = option_map (numbered_with d.number) (all_of stated d.services)

-- the version of a draft from its base
abbrev pub version_from : PlainVersionDraft → PlainVersion Member → Option (PlainVersion Member)
version_from d base = option_map (numbered_with d.number) (option_and_then (with_drafts [] d.services) (all_changed d.changes base.services))

-- what is left of some room, where it does
abbrev pub left : ℕ → ℕ → Option ℕ
left room n = if nat_lt room n then None else Some (room - n)

-- what is left of some room behind services, each with so many more members: a service and each member take one place
abbrev pub left_by_services : ℕ → ℕ → List (PlainService Member) → Option ℕ
left_by_services more room [] = Some room
left_by_services more room (s ∷ ss) = option_and_then (λ r. left_by_services more r ss) (left room (1 + (length s.members + more)))

abbrev pub is_addition : Option Change → Bool
is_addition None = false
is_addition (Some c) = is_none (changed_name c)

-- how many members changes add
abbrev pub additions : List (Option Change) → ℕ
additions os = count_by is_addition os

-- the members that a draft of a service brings
abbrev pub brought : PlainServiceDraft → Option (List (Option Member)) → ℕ
brought d None = additions d.changes
brought d (Some words) = length words

abbrev pub left_by_drafts : ℕ → List PlainServiceDraft → Option ℕ
left_by_drafts room [] = Some room
left_by_drafts room (d ∷ ds) = option_and_then (λ r. left_by_drafts r ds) (left room (1 + brought d d.members))

-- There is room for a version from its base: for the base's services, each with the members that are added to all, and for
-- what its own services bring.
abbrev pub has_room : ℕ → PlainVersionDraft → PlainVersion Member → Bool
has_room room d base = is_some (option_and_then (λ r. left_by_drafts r d.services) (left_by_services (additions d.changes) room base.services))

-- what is left of some room behind a version, nothing where it takes more
abbrev pub left_by_version : ℕ → PlainVersion Member → ℕ
left_by_version room v = unwrap_or (left_by_services 0 room v.services) 0

-- a version from a base that stands before it, where there is room
abbrev pub based : ℕ → PlainVersionDraft → Option (PlainVersion Member) → Result (PlainVersion Member) PoolsFault
based room d None = Err fault.BadMember
based room d (Some base) = if has_room room d base then ok_or (version_from d base) fault.BadMember else Err fault.TooMany

-- the version of a draft beside those before it
abbrev pub beside : ℕ → List (PlainVersion Member) → PlainVersionDraft → Option ℕ → Result (PlainVersion Member) PoolsFault
beside room earlier d None = ok_or (stated_version d) fault.BadMember
beside room earlier d (Some n) = based room d (find (λ v. v.number == n) earlier)

abbrev pub written_out : ℕ → List (PlainVersion Member) → PlainVersionDraft → Result (PlainVersion Member) PoolsFault
written_out room earlier d = beside room earlier d d.base

-- all versions, where those of some drafts come behind others, or the fault of the first draft that has one
abbrev pub after_version : Result (PlainVersion Member) PoolsFault → (PlainVersion Member → Result (List (PlainVersion Member)) PoolsFault)
    → Result (List (PlainVersion Member)) PoolsFault
after_version (Ok v) rest = rest v
after_version (Err e) rest = Err e

abbrev pub written_behind : ℕ → List (PlainVersion Member) → List PlainVersionDraft → Result (List (PlainVersion Member)) PoolsFault
written_behind room earlier [] = Ok earlier
written_behind room earlier (d ∷ ds) = after_version (written_out room earlier d) (λ v. written_behind (left_by_version room v) (earlier ++ v ∷ []) ds)

-- the most services and members that versions may have, counted where one has a base
abbrev pub most_places : ℕ
most_places = 1048576

-- the versions that drafts mean
unfoldable pub versions_of : List PlainVersionDraft → Result (List (PlainVersion Member)) PoolsFault
versions_of ds = written_behind most_places [] ds

-- a fault of the code is that of the meaning, or memory was refused
abbrev pub IsRefused : {A : Type 0} → Result A PoolsFault → PoolsFault → Type 0
IsRefused r fault.Memory = ⊤
IsRefused r fault.BadMember = r ≡ Err fault.BadMember
IsRefused r fault.TooMany = r ≡ Err fault.TooMany
