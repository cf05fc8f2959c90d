-- The words of versions: servers, members and changes.
use Rattle.std.specs.Prelude.{ℕ, Bool, true, false, nat_eq, if◌then◌else◌, List, [], ◌∷◌, codes, find, Option, Some, None, is_some, option_and_then, option_map}
use Rattle.std.specs.Option.{option_or}
use Rattle.std.specs.Cmp.Lexicographic.{pointwise}
use Rattle.std.specs.Str.{bytes_eq}
use Rattle.toml.specs.Data.{Data, Members, no_members, member, get_member, as_str, as_table}
use Rattle.backend_names.specs.NameText.{is_name}
use Rattle.maglev_texts.specs.Parsing.{before_first, behind_first, behind_star, address_of, weighed_name_of, member_of, weighed_member_of, stated_member_of}
use Rattle.maglev_texts.specs.declared.weights.WeighedName.{WeighedName}
use Rattle.pool_versions.specs.declared.backend.Backend.{Backend}
use Rattle.pool_versions.specs.declared.backend.Member.{Member}
use Rattle.scenario_keys.specs.Lookups.{given_or}
use Rattle.scenario_keys.specs.Keys.{key_name}
use Rattle.scenario_keys.specs.declared.key.Key.{Key}
use Rattle.scenario_keys.specs.declared.key.Key.TheVariants as key
use Rattle.scenario_keys.specs.declared.formats.Format.{Format}
use Rattle.scenario_keys.specs.declared.formats.Format.TheVariants.{One, Two, Three}
use Rattle.version_drafts.specs.declared.change.Change.{Change}
use Rattle.version_drafts.specs.declared.change.Change.TheVariants as change

abbrev pub named : List ℕ → ℕ → Backend
named name addr = record { name = name; addr = addr }

-- a server: its name, and the text of its address
abbrev pub server_of : List ℕ → Data → Option Backend
server_of name d = if is_name name then option_map (named name) (option_and_then address_of (as_str d)) else None

-- the servers that the entries of a table are, where each is one
abbrev pub servers_of : Members → Option (List Backend)
servers_of no_members = Some []
servers_of (member name d ms) = option_and_then (λ s. option_map (λ rest. s ∷ rest) (servers_of ms)) (server_of name d)

-- the servers of a document, none where the key is missing
abbrev pub servers_in : Members → Option (List Backend)
servers_in ms = given_or [] (λ d. option_and_then servers_of (as_table d)) (get_member (key_name key.Servers) ms)

-- the first server of a name
abbrev pub server_named : List ℕ → List Backend → Option Backend
server_named name servers = find (λ s. pointwise nat_eq name s.name) servers

abbrev pub in_use : Bool → Bool → ℕ → Backend → Member
in_use up draining weight b = record { backend = b; up = up; draining = draining; weight = weight }

-- a member in the state that stands behind its slash: `down` or `drain`, and up where there is none
abbrev pub with_state : Option (List ℕ) → ℕ → Backend → Option Member
with_state None weight b = Some (in_use true false weight b)
with_state (Some word) weight b =
    if bytes_eq word (codes "down") then Some (in_use false false weight b)
    else (if bytes_eq word (codes "drain") then Some (in_use false true weight b) else None)

-- the member of a name and a weight, at the address of the server of the name
abbrev pub served_at : List Backend → Option (List ℕ) → WeighedName → Option Member
served_at servers state w = option_and_then (with_state state w.weight) (server_named w.name servers)

-- a member word without an address: `NAME`, then `*W` where the weight isn't left out, then `/down` or `/drain`
abbrev pub served_member_of : List Backend → List ℕ → Option Member
served_member_of servers text = option_and_then (served_at servers (behind_first 47 text)) (weighed_name_of (before_first 47 text))

-- the member that a word is in a format
abbrev pub member_in : Format → List Backend → List ℕ → Option Member
member_in One servers text = member_of text
member_in Two servers text = weighed_member_of text
member_in Three servers text = option_or (stated_member_of text) (served_member_of servers text)

-- the name that a text is
abbrev pub name_in : List ℕ → Option (List ℕ)
name_in text = if is_name text then Some text else None

-- a name with a weight that isn't left out
abbrev pub weight_in : List ℕ → Option WeighedName
weight_in text = if is_some (behind_star text) then weighed_name_of text else None

-- the change that a word at a key is
abbrev pub change_in : List Backend → Key → List ℕ → Option Change
change_in servers key.Remove text = option_map change.Remove (name_in text)
change_in servers key.Down text = option_map change.Down (name_in text)
change_in servers key.Drain text = option_map change.Drain (name_in text)
change_in servers key.Up text = option_map change.Up (name_in text)
change_in servers key.Weights text = option_map change.Weigh (weight_in text)
change_in servers key.Add text = option_map change.Add (member_in Three servers text)
change_in servers _ text = None

-- the keys of changes, in the order in which changes are made
abbrev pub change_keys : List Key
change_keys = key.Remove ∷ key.Down ∷ key.Drain ∷ key.Up ∷ key.Weights ∷ key.Add ∷ []
