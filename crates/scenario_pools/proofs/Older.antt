-- In formats 1 and 2 a document's drafts are the versions that it states.
use Rattle.std.proofs.Common.{◌≡◌, ℕ, ◌||◌, Bool, true, false, List, [], ◌∷◌, ◌++◌, map, is_some, Option, Some, None, option_map, option_and_then, codes, refl, ap, ◌∙◌}
use Rattle.std.specs.Prelude.{if◌then◌else◌}
use Rattle.toml.specs.Data.{Data, Items, no_items, item, Members, get_member, as_str, as_table, as_array}
use Rattle.maglev_texts.specs.Parsing.{address_of}
use Rattle.pool_versions.specs.declared.backend.Backend.{Backend}
use Rattle.pool_versions.specs.declared.backend.Member.{Member}
use Rattle.scenario_keys.specs.Lookups.{natural_of, given_or, number_at, text_at, items_at, all_items, has_only}
use Rattle.scenario_keys.specs.Words.{protocol_of_word}
use Rattle.scenario_keys.specs.Keys.{key_name, keys_of, version_keys, service_keys, number_if_of}
use Rattle.scenario_keys.specs.declared.key.Key.TheVariants as key
use Rattle.scenario_keys.specs.declared.formats.Format.{Format}
use Rattle.scenario_keys.specs.declared.formats.Format.TheVariants.{One, Two, Three}
use Rattle.version_drafts.specs.Plain.{PlainService, PlainVersion}
use Rattle.version_drafts.specs.Drafts.{PlainServiceDraft, PlainVersionDraft, whole_service, whole_version}
use Rattle.version_drafts.specs.Words.{member_in, servers_of}
use Rattle.version_drafts.specs.Reading.{Parts, of_members, word_of, has_change_key, members_in, parts_by, service_draft, service_in, services_at, draft_by, version_draft, version_in, are_in_order, in_order, versions_with}
use Rattle.scenario_pools.specs.Older.{old_service_keys, old_version_keys, old_member, old_word, old_service, old_service_in, old_version, old_version_in, old_versions_in, OlderFormatsStateVersions}
use Rattle.scenario_pools.proofs.Alike.{missing}

pair_mapped : {B C : Type 0} (h : B → C) (o : Option B) (r : Option (List B)) → option_and_then (λ c. option_map (λ rest. c ∷ rest) (option_map (map h) r)) (option_map h o) ≡ option_map (map h) (option_and_then (λ b. option_map (λ rest. b ∷ rest) r) o)
pair_mapped h None r = refl
pair_mapped h (Some b) None = refl
pair_mapped h (Some b) (Some rest) = refl

items_mapped : {B C : Type 0} (F : Data → Option C) (G : Data → Option B) (h : B → C) → ((d : Data) → F d ≡ option_map h (G d)) → (ds : Items) → all_items F ds ≡ option_map (map h) (all_items G ds)
items_mapped F G h same no_items = refl
items_mapped {B} {C} F G h same (item d ds) =
    ap (λ (o : Option C). option_and_then (λ b. option_map (λ rest. b ∷ rest) (all_items F ds)) o) (same d)
    ∙ ap (λ (r : Option (List C)). option_and_then (λ b. option_map (λ rest. b ∷ rest) r) (option_map h (G d))) (items_mapped F G h same ds)
    ∙ pair_mapped h (G d) (all_items G ds)

under_mapped : {B C : Type 0} (F : Data → Option C) (G : Data → Option B) (h : B → C) → ((d : Data) → F d ≡ option_map h (G d)) → (o : Option Items) → option_and_then (all_items F) o ≡ option_map (map h) (option_and_then (all_items G) o)
under_mapped F G h same None = refl
under_mapped F G h same (Some ds) = items_mapped F G h same ds

items_alike : {B : Type 0} (F G : Data → Option B) → ((d : Data) → F d ≡ G d) → (ds : Items) → all_items F ds ≡ all_items G ds
items_alike F G same no_items = refl
items_alike {B} F G same (item d ds) =
    ap (λ (o : Option B). option_and_then (λ b. option_map (λ rest. b ∷ rest) (all_items F ds)) o) (same d)
    ∙ ap (λ (r : Option (List B)). option_and_then (λ b. option_map (λ rest. b ∷ rest) r) (G d)) (items_alike F G same ds)

under_alike : {B : Type 0} (F G : Data → Option B) → ((d : Data) → F d ≡ G d) → (o : Option Items) → option_and_then (all_items F) o ≡ option_and_then (all_items G) o
under_alike F G same None = refl
under_alike F G same (Some ds) = items_alike F G same ds

-- words
member_old : (f : Format) → (f ≡ Three → ⊥) → (servers : List Backend) (text : List ℕ) → member_in f servers text ≡ old_member f text
member_old One old servers text = refl
member_old Two old servers text = refl
member_old Three old servers text = absurd (old refl)

text_old : (f : Format) → (f ≡ Three → ⊥) → (servers : List Backend) (o : Option (List ℕ)) → option_map (member_in f servers) o ≡ option_map (old_member f) o
text_old f old servers None = refl
text_old f old servers (Some t) = ap Some (member_old f old servers t)

-- keys
service_keys_old : (f : Format) → (f ≡ Three → ⊥) → service_keys f ≡ old_service_keys
unfolding keys_of
service_keys_old One old = refl
service_keys_old Two old = refl
service_keys_old Three old = absurd (old refl)

version_keys_old : (f : Format) → (f ≡ Three → ⊥) → version_keys f ≡ old_version_keys
unfolding keys_of
version_keys_old One old = refl
version_keys_old Two old = refl
version_keys_old Three old = absurd (old refl)

no_six : (a b c d e f : Option Data) → a ≡ None → b ≡ None → c ≡ None → d ≡ None → e ≡ None → f ≡ None
    → (is_some a || (is_some b || (is_some c || (is_some d || (is_some e || (is_some f || false)))))) ≡ false
no_six a b c d e f ha hb hc hd he hf = rw (ha, hb, hc, hd, he, hf) refl

service_unchanged : (ms : Members) → has_only old_service_keys ms ≡ true → has_change_key ms ≡ false
service_unchanged ms only =
    no_six (get_member (key_name key.Remove) ms) (get_member (key_name key.Down) ms) (get_member (key_name key.Drain) ms) (get_member (key_name key.Up) ms) (get_member (key_name key.Weights) ms) (get_member (key_name key.Add) ms)
    (missing (key_name key.Remove) old_service_keys ms only refl) (missing (key_name key.Down) old_service_keys ms only refl) (missing (key_name key.Drain) old_service_keys ms only refl)
    (missing (key_name key.Up) old_service_keys ms only refl) (missing (key_name key.Weights) old_service_keys ms only refl) (missing (key_name key.Add) old_service_keys ms only refl)

version_unchanged : (ms : Members) → has_only old_version_keys ms ≡ true → has_change_key ms ≡ false
version_unchanged ms only =
    no_six (get_member (key_name key.Remove) ms) (get_member (key_name key.Down) ms) (get_member (key_name key.Drain) ms) (get_member (key_name key.Up) ms) (get_member (key_name key.Weights) ms) (get_member (key_name key.Add) ms)
    (missing (key_name key.Remove) old_version_keys ms only refl) (missing (key_name key.Down) old_version_keys ms only refl) (missing (key_name key.Drain) old_version_keys ms only refl)
    (missing (key_name key.Up) old_version_keys ms only refl) (missing (key_name key.Weights) old_version_keys ms only refl) (missing (key_name key.Add) old_version_keys ms only refl)

-- a service
parts_old : (f : Format) → (f ≡ Three → ⊥) → (servers : List Backend) (ms : Members) → has_change_key ms ≡ false → (o : Option Data)
    → parts_by f servers false ms o ≡ option_map of_members (option_and_then (all_items (old_word f)) (option_and_then as_array o))
parts_old f old servers ms unchanged None = refl
parts_old f old servers ms unchanged (Some d) =
    ap (λ (b : Bool). if b then None else members_in f servers d) unchanged
    ∙ ap (option_map of_members) (under_alike (word_of f servers) (old_word f) (λ d. text_old f old servers (as_str d)) (as_array d))

made_old : (a b c : Option ℕ) (ws : Option (List (Option Member)))
    → option_and_then (λ vip. option_and_then (λ proto. option_and_then (λ port. option_map (λ p. let d : PlainServiceDraft = record { vip = vip; proto = proto; port = port; members = p.members; changes = p.changes } in d) (option_map of_members ws)) c) b) a
    ≡ option_map whole_service (option_and_then (λ vip. option_and_then (λ proto. option_and_then (λ port. option_map (λ members. let s : PlainService (Option Member) = record { vip = vip; proto = proto; port = port; members = members } in s) ws) c) b) a)
made_old None b c ws = refl
made_old (Some x) None c ws = refl
made_old (Some x) (Some y) None ws = refl
made_old (Some x) (Some y) (Some z) None = refl
made_old (Some x) (Some y) (Some z) (Some ws) = refl

abbrev made_service : Option ℕ → Option ℕ → Option ℕ → Option Parts → Option PlainServiceDraft
made_service a b c parts =
    option_and_then (λ vip. option_and_then (λ proto. option_and_then (λ port. option_map (λ p. record { vip = vip; proto = proto; port = port; members = p.members; changes = p.changes }) parts) c) b) a

service_draft_old : (f : Format) → (f ≡ Three → ⊥) → (servers : List Backend) (ms : Members) → has_only old_service_keys ms ≡ true → service_draft f servers false ms ≡ option_map whole_service (old_service f ms)
unfolding service_draft old_service
service_draft_old f old servers ms only =
    let a = option_and_then address_of (text_at (codes "vip") ms) in
    let b = option_and_then protocol_of_word (text_at (codes "proto") ms) in
    ap (made_service a b (number_at 0 65535 (codes "port") ms)) (parts_old f old servers ms (service_unchanged ms only) (get_member (codes "members") ms))
    ∙ made_old a b (number_at 0 65535 (codes "port") ms) (option_and_then (all_items (old_word f)) (items_at (codes "members") ms))

when_same : {A B : Type 0} (h : A → B) (b : Bool) (o : Option B) (o' : Option A) → (b ≡ true → o ≡ option_map h o') → (if b then o else None) ≡ option_map h (if b then o' else None)
when_same h true o o' same = same refl
when_same h false o o' same = refl

service_old : (f : Format) → (f ≡ Three → ⊥) → (servers : List Backend) (o : Option Members)
    → option_and_then (λ ms. if has_only (service_keys f) ms then service_draft f servers false ms else None) o ≡ option_map whole_service (option_and_then (λ ms. if has_only old_service_keys ms then old_service f ms else None) o)
service_old f old servers None = refl
service_old f old servers (Some ms) =
    ap (λ (ks : List (List ℕ)). if has_only ks ms then service_draft f servers false ms else None) (service_keys_old f old)
    ∙ when_same whole_service (has_only old_service_keys ms) (service_draft f servers false ms) (old_service f ms) (λ only. service_draft_old f old servers ms only)

-- a version
abbrev whole_of : ℕ → List PlainServiceDraft → PlainVersionDraft
whole_of number services = record { number = number; base = None; changes = []; services = services }

made_version : (n : Option ℕ) (ss : Option (List (PlainService (Option Member)))) → option_and_then (λ number. option_map (whole_of number) (option_map (map whole_service) ss)) n
    ≡ option_map whole_version (option_and_then (λ number. option_map (λ services. let v : PlainVersion (Option Member) = record { number = number; services = services } in v) ss) n)
made_version None ss = refl
made_version (Some n) None = refl
made_version (Some n) (Some ss) = refl

no_base : (ms : Members) → has_only old_version_keys ms ≡ true → number_if_of key.Base ms ≡ Some None
no_base ms only = ap (given_or None (λ d. option_map (λ n. Some n) (natural_of 0 4294967295 d))) (missing (codes "base") old_version_keys ms only refl)

version_draft_old : (f : Format) → (f ≡ Three → ⊥) → (servers : List Backend) (ms : Members) → has_only old_version_keys ms ≡ true → version_draft f servers ms ≡ option_map whole_version (old_version f ms)
unfolding version_draft old_version
version_draft_old f old servers ms only =
    let n = number_at 0 4294967295 (codes "number") ms in
    ap (λ (base : Option (Option ℕ)). option_and_then (λ number. option_and_then (draft_by f servers number ms) base) n) (no_base ms only)
    ∙ ap (λ (b : Bool). option_and_then (λ number. if b then None else option_map (whole_of number) (services_at f servers ms)) n) (version_unchanged ms only)
    ∙ ap (λ (ss : Option (List PlainServiceDraft)). option_and_then (λ number. option_map (whole_of number) ss) n)
    (under_mapped (service_in f servers false) (old_service_in f) whole_service (λ d. service_old f old servers (as_table d)) (items_at (codes "services") ms))
    ∙ made_version n (option_and_then (all_items (old_service_in f)) (items_at (codes "services") ms))

version_old : (f : Format) → (f ≡ Three → ⊥) → (servers : List Backend) (o : Option Members)
    → option_and_then (λ ms. if has_only (version_keys f) ms then version_draft f servers ms else None) o ≡ option_map whole_version (option_and_then (λ ms. if has_only old_version_keys ms then old_version f ms else None) o)
version_old f old servers None = refl
version_old f old servers (Some ms) =
    ap (λ (ks : List (List ℕ)). if has_only ks ms then version_draft f servers ms else None) (version_keys_old f old)
    ∙ when_same whole_version (has_only old_version_keys ms) (version_draft f servers ms) (old_version f ms) (λ only. version_draft_old f old servers ms only)

-- versions without a base are in order
whole_in_order : (earlier : List PlainVersionDraft) (vs : List (PlainVersion (Option Member))) → are_in_order earlier (map whole_version vs) ≡ true
whole_in_order earlier [] = refl
whole_in_order earlier (v ∷ vs) = whole_in_order (earlier ++ whole_version v ∷ []) vs

all_in_order : (o : Option (List (PlainVersion (Option Member)))) → option_and_then in_order (option_map (map whole_version) o) ≡ option_map (map whole_version) o
all_in_order None = refl
all_in_order (Some vs) = ap (λ (b : Bool). if b then Some (map whole_version vs) else None) (whole_in_order [] vs)

pub older_formats_state_versions : OlderFormatsStateVersions
older_formats_state_versions f ms old no_servers =
    ap (λ (o : Option Data). option_and_then (λ servers. versions_with f servers ms) (given_or [] (λ d. option_and_then servers_of (as_table d)) o)) no_servers
    ∙ ap (option_and_then in_order) (under_mapped (version_in f []) (old_version_in f) whole_version (λ d. version_old f old [] (as_table d)) (items_at (codes "versions") ms))
    ∙ all_in_order (old_versions_in f ms)
