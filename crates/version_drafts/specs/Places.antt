-- The first place at which the servers and versions of a document aren't a scenario's, in the words of what they are.
use Rattle.std.specs.Prelude.{ℕ, ◌+◌, Bool, true, false, if◌then◌else◌, List, [], ◌∷◌, ◌++◌, Option, Some, None, is_some, option_and_then, option_map}
use Rattle.std.specs.Option.{option_or}
use Rattle.toml.specs.Data.{Data, Items, no_items, item, Members, get_member, as_str, as_table, as_array}
use Rattle.maglev_texts.specs.Parsing.{address_of}
use Rattle.pool_versions.specs.declared.backend.Backend.{Backend}
use Rattle.scenario_keys.specs.Lookups.{given_or, text_at, items_at, all_items, has_only}
use Rattle.scenario_keys.specs.Words.{protocol_of_word}
use Rattle.scenario_keys.specs.Keys.{key_name, number_of, number_if_of, version_keys, service_keys}
use Rattle.scenario_keys.specs.declared.key.Key.{Key}
use Rattle.scenario_keys.specs.declared.key.Key.TheVariants as key
use Rattle.scenario_keys.specs.declared.formats.Format.{Format}
use Rattle.version_drafts.specs.Words.{change_keys, servers_in}
use Rattle.version_drafts.specs.Drafts.{PlainVersionDraft}
use Rattle.version_drafts.specs.Reading.{version_in, is_earlier}
use Rattle.version_drafts.specs.declared.place.Flaw.{Flaw}
use Rattle.version_drafts.specs.declared.place.Flaw.TheVariants as flaw
use Rattle.version_drafts.specs.declared.place.Place.{Place}
use Rattle.version_drafts.specs.declared.place.Place.TheVariants as place

-- a key, where nothing is read at it
abbrev pub missing : {A : Type 0} → Key → Option A → Option Key
missing k None = Some k
missing k (Some a) = None

abbrev pub bad_value : {A : Type 0} → Key → Option A → Option Flaw
bad_value k o = option_map (λ k. flaw.Value k) (missing k o)

-- the number of the first item that fails a test, the first being n
abbrev pub item_from : (Data → Bool) → ℕ → Items → Option ℕ
item_from test n no_items = None
item_from test n (item d ds) = if test d then item_from test (n + 1) ds else Some n

abbrev pub is_text : Data → Bool
is_text d = is_some (as_str d)

-- an array of texts at a key
abbrev pub texts_flaw : Key → Data → Option Flaw
texts_flaw k d = given_or (flaw.Value k) (λ ds. option_map (λ n. flaw.Item k n) (item_from is_text 0 ds)) (as_array d)

-- the same, where the key may be missing
abbrev pub texts_if_flaw : Key → Members → Option Flaw
texts_if_flaw k ms = option_and_then (texts_flaw k) (get_member (key_name k) ms)

-- the first of some keys at which there is something else
abbrev pub lists_flaw : List Key → Members → Option Flaw
lists_flaw [] ms = None
lists_flaw (k ∷ ks) ms = option_or (texts_if_flaw k ms) (lists_flaw ks ms)

-- the first of some keys that is there
abbrev pub first_there : List Key → Members → Option Key
first_there [] ms = None
first_there (k ∷ ks) ms = if is_some (get_member (key_name k) ms) then Some k else first_there ks ms

-- a key of changes, where there may be none
abbrev pub misplaced : Members → Option Flaw
misplaced ms = option_map (λ k. flaw.Misplaced k) (first_there change_keys ms)

-- what is wrong with the members of a service, or with its changes where its version has a base
abbrev pub parts_flaw : Bool → Members → Option Data → Option Flaw
parts_flaw based ms (Some d) = option_or (misplaced ms) (texts_flaw key.Members d)
parts_flaw true ms None = lists_flaw change_keys ms
parts_flaw false ms None = option_or (misplaced ms) (Some (flaw.Value key.Members))

-- what is wrong with a service
unfoldable pub service_draft_flaw : Bool → Members → Option Flaw
service_draft_flaw based ms =
    option_or (bad_value key.Vip (option_and_then address_of (text_at (key_name key.Vip) ms)))
    (option_or (bad_value key.Proto (option_and_then protocol_of_word (text_at (key_name key.Proto) ms)))
    (option_or (bad_value key.Port (number_of key.Port ms))
    (parts_flaw based ms (get_member (key_name key.Members) ms))))

abbrev pub service_flaw : Format → Bool → Data → Option Flaw
service_flaw f based d = given_or flaw.NoTable (λ ms. if has_only (service_keys f) ms then service_draft_flaw based ms else Some flaw.Unknown) (as_table d)

-- the first place in version v, its services counted from m
abbrev pub services_from : Format → Bool → ℕ → ℕ → Items → Option Place
services_from f based v m no_items = None
services_from f based v m (item d ds) = option_or (option_map (λ x. place.Service v m x) (service_flaw f based d)) (services_from f based v (m + 1) ds)

-- the services of a version without a base
abbrev pub services_flaw : Format → ℕ → Members → Option Place
services_flaw f v ms = given_or (place.Version v (flaw.Value key.Services)) (services_from f false v 0) (items_at (key_name key.Services) ms)

-- those of a version with a base, where the key may be missing
abbrev pub array_flaw : Format → ℕ → Data → Option Place
array_flaw f v d = given_or (place.Version v (flaw.Value key.Services)) (services_from f true v 0) (as_array d)

abbrev pub services_if_flaw : Format → ℕ → Members → Option Place
services_if_flaw f v ms = option_and_then (array_flaw f v) (get_member (key_name key.Services) ms)

-- what is wrong with a version without a base, and with one
abbrev pub whole_flaw : Format → ℕ → Members → Option Place
whole_flaw f v ms = option_or (option_map (λ x. place.Version v x) (misplaced ms)) (services_flaw f v ms)

abbrev pub based_flaw : Format → ℕ → Members → Option Place
based_flaw f v ms = option_or (option_map (λ x. place.Version v x) (lists_flaw change_keys ms)) (services_if_flaw f v ms)

-- a version by its base
abbrev pub rest_flaw : Format → ℕ → Members → Option (Option ℕ) → Option Place
rest_flaw f v ms None = Some (place.Version v (flaw.Value key.Base))
rest_flaw f v ms (Some None) = whole_flaw f v ms
rest_flaw f v ms (Some (Some base)) = based_flaw f v ms

unfoldable pub version_draft_flaw : Format → ℕ → Members → Option Place
version_draft_flaw f v ms = option_or (option_map (λ x. place.Version v x) (bad_value key.Number (number_of key.Number ms)))
    (rest_flaw f v ms (number_if_of key.Base ms))

abbrev pub version_flaw : Format → ℕ → Data → Option Place
version_flaw f v d = given_or (place.Version v flaw.NoTable) (λ ms. if has_only (version_keys f) ms then version_draft_flaw f v ms
    else Some (place.Version v flaw.Unknown)) (as_table d)

-- the first place in the versions, counted from v
abbrev pub versions_from : Format → ℕ → Items → Option Place
versions_from f v no_items = None
versions_from f v (item d ds) = option_or (version_flaw f v d) (versions_from f (v + 1) ds)

abbrev pub versions_flaw : Format → Members → Option Place
versions_flaw f ms = given_or (place.Root (flaw.Value key.Versions)) (versions_from f 0) (items_at (key_name key.Versions) ms)

-- the number of the first version whose base is no version before it, where these stand before, and v is the first
abbrev pub first_unordered : List PlainVersionDraft → ℕ → List PlainVersionDraft → Option ℕ
first_unordered earlier v [] = None
first_unordered earlier v (d ∷ ds) = if is_earlier earlier d.base then first_unordered (earlier ++ d ∷ []) (v + 1) ds else Some v

-- where versions have a base that isn't before them
abbrev pub order_flaw : List PlainVersionDraft → Option Place
order_flaw ds = option_map (λ v. place.Version v (flaw.Value key.Base)) (first_unordered [] 0 ds)

-- the first place in the versions of a document whose words are read with these servers
abbrev pub flaw_with : Format → List Backend → Members → Option Place
flaw_with f servers ms = option_or (versions_flaw f ms)
    (option_and_then order_flaw (option_and_then (all_items (version_in f servers)) (items_at (key_name key.Versions) ms)))

-- a key of the table of servers is no name, or its value no address; or a place in the versions
abbrev pub flaw_by_servers : Format → Members → Option (List Backend) → Option Place
flaw_by_servers f ms None = Some (place.Root (flaw.Value key.Servers))
flaw_by_servers f ms (Some servers) = flaw_with f servers ms

abbrev pub pools_flaw : Format → Members → Option Place
pools_flaw f ms = flaw_by_servers f ms (servers_in ms)
