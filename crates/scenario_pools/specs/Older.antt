-- How formats 1 and 2 hold versions: each is stated whole, and each member with its address.
use Rattle.std.specs.Prelude.{◌≡◌, ℕ, if◌then◌else◌, List, [], ◌∷◌, map, codes, Option, None, option_and_then, option_map}
use Rattle.toml.specs.Data.{Data, Members, get_member, as_str, as_table}
use Rattle.maglev_texts.specs.Parsing.{address_of, member_of, weighed_member_of, stated_member_of}
use Rattle.pool_versions.specs.declared.backend.Member.{Member}
use Rattle.scenario_keys.specs.Lookups.{number_at, text_at, items_at, all_items, has_only}
use Rattle.scenario_keys.specs.Words.{protocol_of_word}
use Rattle.scenario_keys.specs.declared.formats.Format.{Format}
use Rattle.scenario_keys.specs.declared.formats.Format.TheVariants.{One, Two, Three}
use Rattle.version_drafts.specs.Plain.{PlainService, PlainVersion}
use Rattle.version_drafts.specs.Drafts.{whole_version}
use Rattle.version_drafts.specs.Reading.{versions_in}

abbrev pub old_service_keys : List (List ℕ)
old_service_keys = codes "vip" ∷ codes "proto" ∷ codes "port" ∷ codes "members" ∷ []

abbrev pub old_version_keys : List (List ℕ)
old_version_keys = codes "number" ∷ codes "services" ∷ []

-- the member that a word with an address is in a format
abbrev pub old_member : Format → List ℕ → Option Member
old_member One text = member_of text
old_member Two text = weighed_member_of text
old_member Three text = stated_member_of text

abbrev pub old_word : Format → Data → Option (Option Member)
old_word f d = option_map (old_member f) (as_str d)

unfoldable pub old_service : Format → Members → Option (PlainService (Option Member))
old_service f ms =
    option_and_then (λ vip. option_and_then (λ proto. option_and_then (λ port. option_map (λ members.
    record { vip = vip; proto = proto; port = port; members = members })
    (option_and_then (all_items (old_word f)) (items_at (codes "members") ms)))
    (number_at 0 65535 (codes "port") ms))
    (option_and_then protocol_of_word (text_at (codes "proto") ms)))
    (option_and_then address_of (text_at (codes "vip") ms))

abbrev pub old_service_in : Format → Data → Option (PlainService (Option Member))
old_service_in f d = option_and_then (λ ms. if has_only old_service_keys ms then old_service f ms else None) (as_table d)

unfoldable pub old_version : Format → Members → Option (PlainVersion (Option Member))
old_version f ms =
    option_and_then (λ number. option_map (λ services. record { number = number; services = services })
    (option_and_then (all_items (old_service_in f)) (items_at (codes "services") ms)))
    (number_at 0 4294967295 (codes "number") ms)

abbrev pub old_version_in : Format → Data → Option (PlainVersion (Option Member))
old_version_in f d = option_and_then (λ ms. if has_only old_version_keys ms then old_version f ms else None) (as_table d)

abbrev pub old_versions_in : Format → Members → Option (List (PlainVersion (Option Member)))
old_versions_in f ms = option_and_then (all_items (old_version_in f)) (items_at (codes "versions") ms)

-- in formats 1 and 2, which have no servers, a document's drafts are the versions that it states
abbrev pub OlderFormatsStateVersions : Type 0
OlderFormatsStateVersions = (f : Format) (ms : Members) → (f ≡ Three → ⊥) → get_member (codes "servers") ms ≡ None
    → versions_in f ms ≡ option_map (map whole_version) (old_versions_in f ms)
