-- The first place at which a document isn't a scenario's, in the words of what a scenario is, and that of each fault.
use Rattle.std.specs.Prelude.{◌≡◌, ℕ, Bool, if◌then◌else◌, List, Option, Some, None, is_some, option_and_then, option_map, Result, Ok, Err}
use Rattle.std.specs.Option.{option_or}
use Rattle.toml.specs.Data.{Data, Items, Members, as_str}
use Rattle.scenario_keys.specs.Lookups.{items_at, all_items, given_or, has_only}
use Rattle.scenario_keys.specs.Keys.{key_name, root_keys}
use Rattle.scenario_keys.specs.Formats.{format_of}
use Rattle.scenario_keys.specs.declared.key.Key.{Key}
use Rattle.scenario_keys.specs.declared.key.Key.TheVariants as key
use Rattle.scenario_keys.specs.declared.formats.Format.{Format}
use Rattle.version_drafts.specs.Places.{bad_value, item_from, is_text, pools_flaw}
use Rattle.version_drafts.specs.declared.place.Flaw.{Flaw}
use Rattle.version_drafts.specs.declared.place.Flaw.TheVariants as flaw
use Rattle.version_drafts.specs.declared.place.Place.{Place}
use Rattle.version_drafts.specs.declared.place.Place.TheVariants as place
use Rattle.version_drafts.specs.Plain.{PlainVersion}
use Rattle.version_drafts.specs.Drafts.{PlainVersionDraft}
use Rattle.scenario_pools.specs.Writing.{versions_of}
use Rattle.scenario_pools.specs.Brought.{word_of_member}
use Rattle.scenario_pools.specs.declared.fault.PoolsFault.{PoolsFault}
use Rattle.scenario_places.specs.MemberPlaces.{member_place_of}
use Rattle.scenario_places.specs.PoolPlaces.{pool_place_of}
use Rattle.scenario_places.specs.Catalogues.{IsPoolRefused}
use Rattle.pool_versions.specs.declared.catalogue.PoolFault.{PoolFault}
use Rattle.pool_versions.specs.declared.catalogue.PoolFault.TheVariants as pool
use Rattle.pool_versions.specs.declared.backend.Member.{Member}
use Rattle.scenario.specs.Setup.{bad_choice, bad_limit}
use Rattle.scenario.specs.Meaning.{PlainDraft, address_in, few_nodes, few_steps, draft_in, pool_refused, IsDocument}
use Rattle.scenario.specs.declared.refused.Refused.{Refused}
use Rattle.scenario.specs.declared.fault.ScenarioFault.{ScenarioFault}
use Rattle.scenario.specs.declared.fault.ScenarioFault.TheVariants as fault

abbrev pub is_address : Data → Bool
is_address d = is_some (address_in d)

-- the first item that is no address, or the whole array where it has too few or too many
abbrev pub nodes_in : Items → Option Flaw
nodes_in ds = option_or (option_map (λ n. flaw.Item key.Nodes n) (item_from is_address 0 ds))
    (bad_value key.Nodes (option_and_then few_nodes (all_items address_in ds)))

abbrev pub nodes_flaw : Members → Option Flaw
nodes_flaw ms = given_or (flaw.Value key.Nodes) nodes_in (items_at (key_name key.Nodes) ms)

abbrev pub steps_from : Items → Option Flaw
steps_from ds = option_or (option_map (λ n. flaw.Item key.Steps n) (item_from is_text 0 ds))
    (bad_value key.Steps (option_and_then few_steps (all_items as_str ds)))

abbrev pub steps_flaw : Members → Option Flaw
steps_flaw ms = given_or (flaw.Value key.Steps) steps_from (items_at (key_name key.Steps) ms)

abbrev pub at_key : Key → Place
at_key k = place.Root (flaw.Value k)

-- the first place in the setup, the nodes, the servers, the versions and the steps
unfoldable pub draft_flaw : Format → Members → Option Place
draft_flaw f ms =
    option_or (option_map at_key (bad_choice ms))
    (option_or (option_map at_key (bad_limit ms))
    (option_or (option_map (λ x. place.Root x) (nodes_flaw ms))
    (option_or (pools_flaw f ms)
    (option_map (λ x. place.Root x) (steps_flaw ms)))))

-- the first place in a document of a format
abbrev pub place_of : Format → Members → Option Place
place_of f ms = if has_only (root_keys f) ms then draft_flaw f ms else Some (place.Root flaw.Unknown)

-- the word for which drafts of a document are refused is at this place
abbrev pub IsMemberAt : Members → List PlainVersionDraft → Option Place → Type 0
IsMemberAt ms ds None = ⊥
IsMemberAt ms ds (Some p) = member_place_of ms ds ≡ Some p

-- The versions that drafts mean can't be those of a catalogue at this place, which is told in the drafts. Those that are too
-- large written out have none.
abbrev pub ArePoolsAt : ℕ → List PlainVersionDraft → Result (List (PlainVersion Member)) PoolsFault → Option Place → Type 0
ArePoolsAt size ds (Ok vs) None = ⊥
ArePoolsAt size ds (Ok vs) (Some p) = option_map (word_of_member ds vs) (pool_place_of size vs) ≡ Some p
ArePoolsAt size ds (Err e) o = o ≡ None

-- where the versions of a document's drafts are refused by a fault
abbrev pub AreVersionsAt : Members → List PlainVersionDraft → ScenarioFault → Option Place → Type 0
AreVersionsAt ms ds fault.BadMember o = IsMemberAt ms ds o
AreVersionsAt ms ds e o = o ≡ None

-- a catalogue refuses the versions of drafts by a fault, and the place of that in the drafts
abbrev pub IsDraftedAt : ℕ → List PlainVersionDraft → List (PlainVersion Member) → PoolFault → Option Place → Type 0
IsDraftedAt size ds vs pool.Memory o = o ≡ None
IsDraftedAt size ds vs f None = ⊥
IsDraftedAt size ds vs f (Some p) = option_map (word_of_member ds vs) (pool_place_of size vs) ≡ Some p

-- versions of drafts are refused as a catalogue's, at the place of the drafts where a catalogue refuses them
abbrev pub AreRefusedAt : ℕ → List PlainVersionDraft → List (PlainVersion Member) → Refused → Type 0
AreRefusedAt size ds vs r = (f : PoolFault) × (r.fault ≡ pool_refused f) × IsPoolRefused size vs f × IsDraftedAt size ds vs f r.place

-- where a draft of a document is refused by a fault, which is no key's
abbrev pub IsDraftAt : Members → PlainDraft → ScenarioFault → Option Place → Type 0
IsDraftAt ms d fault.BadMember o = IsMemberAt ms d.versions o
IsDraftAt ms d (fault.Pool e) o = ArePoolsAt d.choices.size d.versions (versions_of d.versions) o
IsDraftAt ms d e o = o ≡ None

-- a text's draft is refused by a fault at this place
abbrev pub IsAtDraft : List ℕ → ScenarioFault → Option Place → Type 0
IsAtDraft text e o =
    (ms : Members) × (f : Format) × (d : PlainDraft) × IsDocument text ms × (format_of ms ≡ Some f) × (draft_in f ms ≡ Some d) × IsDraftAt ms d e o

-- The place of a text's fault. As BadKey it is refused at the first place of its document, as BadMember at the first word that
-- is none, and as Pool at the first that a catalogue refuses. Another fault has no place.
abbrev pub IsAt : List ℕ → ScenarioFault → Option Place → Type 0
IsAt text fault.BadKey None = ⊥
IsAt text fault.BadKey (Some p) = (ms : Members) × (f : Format) × IsDocument text ms × (format_of ms ≡ Some f) × (place_of f ms ≡ Some p)
IsAt text fault.BadMember o = IsAtDraft text fault.BadMember o
IsAt text (fault.Pool e) o = IsAtDraft text (fault.Pool e) o
IsAt text e o = o ≡ None
