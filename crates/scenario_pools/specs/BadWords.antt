-- The first word of drafts for which they are refused.
use Rattle.std.specs.Prelude.{◌≡◌, ℕ, ◌+◌, Bool, true, false, ◌==◌, if◌then◌else◌, List, [], ◌∷◌, ◌++◌, map, find, Option, Some, None, is_some, Result, Ok, Err}
use Rattle.pool_versions.specs.Pool.{same_key}
use Rattle.pool_versions.specs.declared.backend.Member.{Member}
use Rattle.version_drafts.specs.Plain.{PlainService, PlainVersion, plain_key}
use Rattle.version_drafts.specs.Changes.{changed_name, changed_by}
use Rattle.scenario_pools.specs.Changes.{has_member, some_has_member, service_changed_by, all_changed}
use Rattle.version_drafts.specs.Drafts.{PlainServiceDraft, PlainVersionDraft, draft_key}
use Rattle.scenario_pools.specs.Writing.{stated, with_draft, written_out, left_by_version, most_places, versions_of}
use Rattle.version_drafts.specs.declared.change.Change.{Change}
use Rattle.scenario_pools.specs.declared.bad_words.BadWord.{BadWord}
use Rattle.scenario_pools.specs.declared.bad_words.BadWord.TheVariants as bad
use Rattle.scenario_pools.specs.declared.fault.PoolsFault.{PoolsFault}
use Rattle.scenario_pools.specs.declared.fault.PoolsFault.TheVariants as fault

-- the number of the first word that is no member, the first being n
abbrev pub first_none : ℕ → List (Option Member) → ℕ
first_none n [] = n
first_none n (None ∷ os) = n
first_none n (Some m ∷ os) = first_none (n + 1) os

-- the number of the first change that is none, or whose name no member has at that point, the first being n
abbrev pub bad_change : ℕ → List (Option Change) → List Member → ℕ
bad_change n [] ms = n
bad_change n (None ∷ os) ms = n
bad_change n (Some c ∷ os) ms = if has_member (changed_name c) ms then bad_change (n + 1) os (changed_by c ms) else n

-- the same of changes of all services
abbrev pub bad_change_of_all : ℕ → List (Option Change) → List (PlainService Member) → ℕ
bad_change_of_all n [] ss = n
bad_change_of_all n (None ∷ os) ss = n
bad_change_of_all n (Some c ∷ os) ss = if some_has_member (changed_name c) ss then bad_change_of_all (n + 1) os (map (service_changed_by c) ss) else n

-- the service that a draft is for
abbrev pub service_for : PlainServiceDraft → List (PlainService Member) → Option (PlainService Member)
service_for d ss = find (λ s. same_key (draft_key d) (plain_key s)) ss

abbrev pub bad_in_changes : ℕ → PlainServiceDraft → Option (PlainService Member) → BadWord
bad_in_changes m d None = bad.Service m
bad_in_changes m d (Some s) = bad.ServiceChange m (bad_change 0 d.changes s.members)

-- what is wrong with the draft of service m, among services
abbrev pub bad_in_service : ℕ → PlainServiceDraft → List (PlainService Member) → Option (List (Option Member)) → BadWord
bad_in_service m d ss (Some words) = bad.Member m (first_none 0 words)
bad_in_service m d ss None = bad_in_changes m d (service_for d ss)

abbrev pub or_behind : {A : Type 0} → BadWord → (A → BadWord) → Option A → BadWord
or_behind here rest None = here
or_behind here rest (Some a) = rest a

-- what is wrong with the first draft of a service that can't be made, the first being m
abbrev pub bad_in_drafts : List PlainServiceDraft → ℕ → List PlainServiceDraft → List (PlainService Member) → BadWord
bad_in_drafts before m [] ss = bad.Base
bad_in_drafts before m (d ∷ ds) ss = or_behind (bad_in_service m d ss d.members) (bad_in_drafts (before ++ d ∷ []) (m + 1) ds) (with_draft before d ss)

-- the same of drafts without a base
abbrev pub bad_in_stated : ℕ → List PlainServiceDraft → BadWord
bad_in_stated m [] = bad.Base
bad_in_stated m (d ∷ ds) = if is_some (stated d) then bad_in_stated (m + 1) ds else bad_in_service m d [] d.members

-- what is wrong with a version from its base
abbrev pub bad_in_based : PlainVersionDraft → Option (PlainVersion Member) → BadWord
bad_in_based d None = bad.Base
bad_in_based d (Some base) = or_behind (bad.Change (bad_change_of_all 0 d.changes base.services)) (bad_in_drafts [] 0 d.services)
    (all_changed d.changes base.services)

abbrev pub bad_in_version : List (PlainVersion Member) → PlainVersionDraft → Option ℕ → BadWord
bad_in_version earlier d None = bad_in_stated 0 d.services
bad_in_version earlier d (Some n) = bad_in_based d (find (λ v. v.number == n) earlier)

-- what is wrong in version v, or in those behind it
abbrev pub bad_or_behind : ℕ → BadWord → (PlainVersion Member → Option (ℕ × BadWord)) → Result (PlainVersion Member) PoolsFault → Option (ℕ × BadWord)
bad_or_behind v here rest (Ok version) = rest version
bad_or_behind v here rest (Err fault.BadMember) = Some (v, here)
bad_or_behind v here rest (Err fault.TooMany) = None
bad_or_behind v here rest (Err fault.Memory) = None

abbrev pub bad_word_from : ℕ → List (PlainVersion Member) → ℕ → List PlainVersionDraft → Option (ℕ × BadWord)
bad_word_from room earlier v [] = None
bad_word_from room earlier v (d ∷ ds) =
    bad_or_behind v (bad_in_version earlier d d.base) (λ w. bad_word_from (left_by_version room w) (earlier ++ w ∷ []) (v + 1) ds) (written_out room earlier d)

-- the first word for which drafts are refused, with the number of its version
unfoldable pub bad_word_of : List PlainVersionDraft → Option (ℕ × BadWord)
bad_word_of ds = bad_word_from most_places [] 0 ds

abbrev pub is_bad_member : Result (List (PlainVersion Member)) PoolsFault → Bool
is_bad_member (Ok vs) = false
is_bad_member (Err fault.BadMember) = true
is_bad_member (Err fault.TooMany) = false
is_bad_member (Err fault.Memory) = false

-- drafts have such a word exactly where they are refused as BadMember
abbrev pub BadWordsAreBadMembers : Type 0
BadWordsAreBadMembers = (ds : List PlainVersionDraft) → is_some (bad_word_of ds) ≡ is_bad_member (versions_of ds)

-- drafts that are refused by a fault are so for this word, where the fault is of one
abbrev pub IsOfWord : List PlainVersionDraft → PoolsFault → Option (ℕ × BadWord) → Type 0
IsOfWord ds fault.BadMember None = ⊥
IsOfWord ds fault.BadMember (Some w) = bad_word_of ds ≡ Some w
IsOfWord ds e o = o ≡ None
