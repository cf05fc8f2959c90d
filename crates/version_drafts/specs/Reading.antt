-- The drafts of versions that a document holds. None: a key isn't as it should be.
use Rattle.std.specs.Prelude.{ℕ, Bool, true, false, ◌&&◌, ◌==◌, if◌then◌else◌, List, [], ◌∷◌, ◌++◌, Option, Some, None, is_some, option_and_then, option_map}
use Rattle.std.specs.List.{list_any}
use Rattle.toml.specs.Data.{Data, Members, get_member, as_str, as_table, as_array}
use Rattle.maglev_texts.specs.Parsing.{address_of}
use Rattle.pool_versions.specs.declared.backend.Backend.{Backend}
use Rattle.pool_versions.specs.declared.backend.Member.{Member}
use Rattle.scenario_keys.specs.Lookups.{given_or, text_at, items_at, all_items, has_only}
use Rattle.scenario_keys.specs.Words.{protocol_of_word}
use Rattle.scenario_keys.specs.Keys.{key_name, number_of, number_if_of, version_keys, service_keys}
use Rattle.scenario_keys.specs.declared.key.Key.{Key}
use Rattle.scenario_keys.specs.declared.key.Key.TheVariants as key
use Rattle.scenario_keys.specs.declared.formats.Format.{Format}
use Rattle.version_drafts.specs.Words.{member_in, change_in, change_keys, servers_in}
use Rattle.version_drafts.specs.Drafts.{PlainServiceDraft, PlainVersionDraft}
use Rattle.version_drafts.specs.declared.change.Change.{Change}
use Rattle.version_drafts.specs.declared.services.Parts.{Parts as CodeParts}

-- a text, as the member that it is, if it is one
abbrev pub word_of : Format → List Backend → Data → Option (Option Member)
word_of f servers d = option_map (member_in f servers) (as_str d)

-- a text at a key, as the change that it is, if it is one
abbrev pub change_word : List Backend → Key → Data → Option (Option Change)
change_word servers k d = option_map (change_in servers k) (as_str d)

-- the changes at a key, none where it is missing
abbrev pub changes_at : List Backend → Key → Members → Option (List (Option Change))
changes_at servers k ms = given_or [] (λ d. option_and_then (all_items (change_word servers k)) (as_array d)) (get_member (key_name k) ms)

-- the changes at some keys, in the keys' order
abbrev pub changes_of : List Backend → List Key → Members → Option (List (Option Change))
changes_of servers [] ms = Some []
changes_of servers (k ∷ ks) ms = option_and_then (λ cs. option_map (λ rest. cs ++ rest) (changes_of servers ks ms)) (changes_at servers k ms)

-- a table has a key of changes
abbrev pub has_change_key : Members → Bool
has_change_key ms = list_any (λ k. is_some (get_member (key_name k) ms)) change_keys

-- what a service has: members, or changes of a base's service
pub record Parts : Type 0 where
  pub members : Option (List (Option Member))
  pub changes : List (Option Change)

abbrev pub of_members : List (Option Member) → Parts
of_members words = record { members = Some words; changes = [] }

abbrev pub of_changes : List (Option Change) → Parts
of_changes changes = record { members = None; changes = changes }

abbrev pub plain_parts : CodeParts → Parts
plain_parts p = record { members = option_map (λ v. v.items) p.members; changes = p.changes.items }

-- the members that an array of words is
abbrev pub members_in : Format → List Backend → Data → Option Parts
members_in f servers d = option_map of_members (option_and_then (all_items (word_of f servers)) (as_array d))

-- members, and no key of changes; or changes, where the version has a base
abbrev pub parts_by : Format → List Backend → Bool → Members → Option Data → Option Parts
parts_by f servers based ms (Some d) = if has_change_key ms then None else members_in f servers d
parts_by f servers true ms None = option_map of_changes (changes_of servers change_keys ms)
parts_by f servers false ms None = None

abbrev pub parts_of : Format → List Backend → Bool → Members → Option Parts
parts_of f servers based ms = parts_by f servers based ms (get_member (key_name key.Members) ms)

-- a service of a version, which has a base or not
unfoldable pub service_draft : Format → List Backend → Bool → Members → Option PlainServiceDraft
service_draft f servers based ms =
    option_and_then (λ vip. option_and_then (λ proto. option_and_then (λ port. option_map (λ p.
    record { vip = vip; proto = proto; port = port; members = p.members; changes = p.changes })
    (parts_of f servers based ms))
    (number_of key.Port ms))
    (option_and_then protocol_of_word (text_at (key_name key.Proto) ms)))
    (option_and_then address_of (text_at (key_name key.Vip) ms))

abbrev pub service_in : Format → List Backend → Bool → Data → Option PlainServiceDraft
service_in f servers based d = option_and_then (λ ms. if has_only (service_keys f) ms then service_draft f servers based ms else None) (as_table d)

-- the services of a version without a base
abbrev pub services_at : Format → List Backend → Members → Option (List PlainServiceDraft)
services_at f servers ms = option_and_then (all_items (service_in f servers false)) (items_at (key_name key.Services) ms)

-- a version without a base, which has services and no key of changes
abbrev pub whole_draft : Format → List Backend → ℕ → Members → Option PlainVersionDraft
whole_draft f servers number ms =
    if has_change_key ms then None else
    option_map (λ services. record { number = number; base = None; changes = []; services = services })
    (services_at f servers ms)

-- the services of a version with a base, none where the key is missing
abbrev pub services_if : Format → List Backend → Members → Option (List PlainServiceDraft)
services_if f servers ms = given_or [] (λ d. option_and_then (all_items (service_in f servers true)) (as_array d)) (get_member (key_name key.Services) ms)

-- a version with a base
abbrev pub based_draft : Format → List Backend → ℕ → ℕ → Members → Option PlainVersionDraft
based_draft f servers number base ms =
    option_and_then (λ changes. option_map (λ services. record { number = number; base = Some base; changes = changes; services = services })
    (services_if f servers ms)) (changes_of servers change_keys ms)

abbrev pub draft_by : Format → List Backend → ℕ → Members → Option ℕ → Option PlainVersionDraft
draft_by f servers number ms None = whole_draft f servers number ms
draft_by f servers number ms (Some base) = based_draft f servers number base ms

unfoldable pub version_draft : Format → List Backend → Members → Option PlainVersionDraft
version_draft f servers ms = option_and_then (λ number. option_and_then (draft_by f servers number ms) (number_if_of key.Base ms)) (number_of key.Number ms)

abbrev pub version_in : Format → List Backend → Data → Option PlainVersionDraft
version_in f servers d = option_and_then (λ ms. if has_only (version_keys f) ms then version_draft f servers ms else None) (as_table d)

-- a base is the number of an earlier version
abbrev pub is_earlier : List PlainVersionDraft → Option ℕ → Bool
is_earlier earlier None = true
is_earlier earlier (Some n) = list_any (λ d. d.number == n) earlier

-- each base of some versions stands before it
abbrev pub are_in_order : List PlainVersionDraft → List PlainVersionDraft → Bool
are_in_order earlier [] = true
are_in_order earlier (d ∷ ds) = is_earlier earlier d.base && are_in_order (earlier ++ d ∷ []) ds

abbrev pub in_order : List PlainVersionDraft → Option (List PlainVersionDraft)
in_order ds = if are_in_order [] ds then Some ds else None

-- the versions of a document, where its words are read with these servers
abbrev pub versions_with : Format → List Backend → Members → Option (List PlainVersionDraft)
versions_with f servers ms = option_and_then in_order (option_and_then (all_items (version_in f servers)) (items_at (key_name key.Versions) ms))

-- the versions of a document
abbrev pub versions_in : Format → Members → Option (List PlainVersionDraft)
versions_in f ms = option_and_then (λ servers. versions_with f servers ms) (servers_in ms)
