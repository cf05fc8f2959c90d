-- The word of a document that brought a member of a version by difference.
use Rattle.std.specs.Prelude.{ℕ, ◌+◌, ◌-◌, Bool, false, nat_lt, if◌then◌else◌, List, length, Option, Some, None, option_map, option_and_then, slice_get}
use Rattle.std.specs.Prelude.{unwrap_or}
use Rattle.std.specs.List.{position_or_len}
use Rattle.std.specs.Option.{option_or}
use Rattle.pool_versions.specs.Pool.{same_key}
use Rattle.pool_versions.specs.declared.backend.Member.{Member}
use Rattle.scenario_keys.specs.declared.key.Key.TheVariants as key
use Rattle.version_drafts.specs.Changes.{is_of}
use Rattle.version_drafts.specs.Drafts.{PlainServiceDraft, PlainVersionDraft, draft_key}
use Rattle.version_drafts.specs.Plain.{PlainService, PlainVersion, plain_key}
use Rattle.version_drafts.specs.declared.change.Change.{Change}
use Rattle.version_drafts.specs.declared.change.Change.TheVariants as change
use Rattle.version_drafts.specs.declared.place.Flaw.{Flaw}
use Rattle.version_drafts.specs.declared.place.Flaw.TheVariants as flaw
use Rattle.version_drafts.specs.declared.place.Place.{Place}
use Rattle.version_drafts.specs.declared.place.Place.TheVariants as place
use Rattle.scenario_pools.specs.Writing.{additions}

abbrev pub adds_by : List ℕ → Change → Bool
adds_by name (change.Add m) = is_of name m
adds_by name c = false

-- a change adds a member of this name
abbrev pub adds : List ℕ → Option Change → Bool
adds name None = false
adds name (Some c) = adds_by name c

abbrev pub adds_there : List ℕ → Option (Option Change) → Bool
adds_there name None = false
adds_there name (Some o) = adds name o

-- The item at `add` of the change that has so many behind it, where it adds a member of this name. Changes that add stand
-- behind all others.
abbrev pub added_item : List ℕ → ℕ → List (Option Change) → Option ℕ
added_item name behind os =
    if nat_lt behind (length os) then
    if adds_there name (slice_get os ((length os - behind) - 1)) then Some (additions os - (behind + 1)) else None
    else None

-- the word of version v that added a member of this name, with so many behind it
abbrev pub by_version : ℕ → List ℕ → ℕ → List (Option Change) → Option Place
by_version v name behind os = option_map (λ k. place.Version v (flaw.Item key.Add k)) (added_item name behind os)

-- the same of its service of number q, whose changes come behind those of the version
abbrev pub by_changes : ℕ → ℕ → List ℕ → ℕ → List (Option Change) → List (Option Change) → Option Place
by_changes v q name behind os cs =
    option_or (option_map (λ k. place.Service v q (flaw.Item key.Add k)) (added_item name behind cs)) (by_version v name (behind - additions cs) os)

-- the word of member m in the draft of service q, which has members or changes
abbrev pub in_service : ℕ → ℕ → ℕ → List ℕ → ℕ → List (Option Change) → List (Option Change) → Option (List (Option Member)) → Option Place
in_service v q m name behind os cs None = by_changes v q name behind os cs
in_service v q m name behind os cs (Some words) = Some (place.Service v q (flaw.Item key.Members m))

-- the same where the version has this draft of the service, or none
abbrev pub in_draft : ℕ → ℕ → ℕ → List ℕ → ℕ → List (Option Change) → Option PlainServiceDraft → Option Place
in_draft v q m name behind os None = by_version v name behind os
in_draft v q m name behind os (Some d) = in_service v q m name behind os d.changes d.members

-- the number of the first draft of a service, that of all drafts where there is none
abbrev pub draft_for : PlainService Member → List PlainServiceDraft → ℕ
draft_for s ds = position_or_len (λ d. same_key (draft_key d) (plain_key s)) ds

-- how many members of a service stand behind member m
abbrev pub behind : PlainService Member → ℕ → ℕ
behind s m = (length s.members - m) - 1

-- the word of version v that brought member m of a service
abbrev pub brought_to : ℕ → PlainVersionDraft → PlainService Member → ℕ → Member → Option Place
brought_to v d s m x =
    in_draft v (draft_for s d.services) m x.backend.name (behind s m) d.changes (slice_get d.services (draft_for s d.services))

abbrev pub brought_of : ℕ → PlainVersionDraft → ℕ → PlainService Member → Option Place
brought_of v d m s = option_and_then (brought_to v d s m) (slice_get s.members m)

-- the place of member m of service n of version v in the version's draft: where no word is found, the service's own
abbrev pub placed_in : ℕ → ℕ → ℕ → PlainVersionDraft → PlainVersion Member → Place
placed_in v n m d x = unwrap_or (option_and_then (brought_of v d m) (slice_get x.services n)) (place.Version v (flaw.Item key.Services n))

-- the same where the version has a base, and its place in the version as it is where it has none
abbrev pub drafted : ℕ → ℕ → ℕ → PlainVersionDraft → PlainVersion Member → Option ℕ → Place
drafted v n m d x None = place.Service v n (flaw.Item key.Members m)
drafted v n m d x (Some base) = placed_in v n m d x

abbrev pub member_in : Flaw → Option ℕ
member_in (flaw.Item key.Members m) = Some m
member_in f = None

abbrev pub word_at : List PlainVersionDraft → List (PlainVersion Member) → ℕ → ℕ → ℕ → Option Place
word_at ds vs v n m = option_and_then (λ d. option_map (λ x. drafted v n m d x d.base) (slice_get vs v)) (slice_get ds v)

-- The place in the drafts of a place in the versions that they mean. A member of a version by difference is at the word that
-- brought it there: any other place is as it was.
abbrev pub word_of_member : List PlainVersionDraft → List (PlainVersion Member) → Place → Place
word_of_member ds vs (place.Service v n f) = unwrap_or (option_and_then (word_at ds vs v n) (member_in f)) (place.Service v n f)
word_of_member ds vs p = p
