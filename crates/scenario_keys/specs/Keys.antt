-- The keys of a scenario: the tables and formats that may have each, and what its value may be.
use Rattle.std.specs.Prelude.{ℕ, Bool, true, false, ◌&&◌, if◌then◌else◌, List, [], ◌∷◌, codes, Option, Some, None}
use Rattle.toml.specs.Data.{Members}
use Rattle.scenario_keys.specs.Lookups.{number_by, number_if, flag_or}
use Rattle.scenario_keys.specs.declared.words.WordList.TheVariants as words
use Rattle.scenario_keys.specs.declared.formats.Format.{Format}
use Rattle.scenario_keys.specs.declared.formats.Format.TheVariants.{One, Two, Three}
use Rattle.scenario_keys.specs.declared.form.Form.{Form}
use Rattle.scenario_keys.specs.declared.form.Form.TheVariants as form
use Rattle.scenario_keys.specs.declared.form.ItemForm.{ItemForm}
use Rattle.scenario_keys.specs.declared.form.ItemForm.TheVariants as item
use Rattle.scenario_keys.specs.declared.key.Key.{Key}
use Rattle.scenario_keys.specs.declared.key.Key.TheVariants as key
use Rattle.scenario_keys.specs.declared.key.Rule.{Rule}
use Rattle.scenario_keys.specs.declared.key.Owner.{Owner}
use Rattle.scenario_keys.specs.declared.key.Owner.TheVariants as owner
use Rattle.scenario_keys.specs.declared.key.Home.{Home}
use Rattle.scenario_keys.specs.declared.key.Home.TheVariants.{Document, Version, Service, Pool}

-- what is known of a key: the tables and the first format that may have it, its name, and what its value may be
pub record PlainRule : Type 0 where
  pub home : Home
  pub since : Format
  pub name : List ℕ
  pub form : Form

abbrev pub plain_rule : Rule → PlainRule
plain_rule r = record { home = r.home; since = r.since; name = r.name.now; form = r.form }

abbrev pub entry : Home → Format → List ℕ → Form → PlainRule
entry home since name f = record { home = home; since = since; name = name; form = f }

abbrev pub number : ℕ → ℕ → Form
number low high = form.Number low high None

-- an array of any number of items
abbrev pub any : ItemForm → Form
any of = form.Items of 0 18446744073709551615

-- the table of keys
abbrev pub rule_of : Key → PlainRule
rule_of key.Format = entry Document One (codes "format") (number 1 3)
rule_of key.Size = entry Document One (codes "size") form.Slots
rule_of key.Hash = entry Document One (codes "hash") (form.Word words.Hash)
rule_of key.Scheme = entry Document One (codes "scheme") (form.Word words.Scheme)
rule_of key.Spread = entry Document One (codes "spread") (form.Word words.Spread)
rule_of key.Workers = entry Document One (codes "workers") (number 1 16)
rule_of key.Capacity = entry Document One (codes "capacity") (number 1 1000000)
rule_of key.Ring = entry Document One (codes "ring") (form.Number 1 65536 (Some 1024))
rule_of key.Check = entry Document One (codes "check") (form.Flag true)
rule_of key.Idle = entry Document Two (codes "idle") (form.NumberIf 0 4294967295000000)
rule_of key.Nodes = entry Document One (codes "nodes") (form.Items item.Address 1 64)
rule_of key.Servers = entry Document Three (codes "servers") form.Servers
rule_of key.Steps = entry Document One (codes "steps") (form.Items item.Text 0 100000)
rule_of key.Versions = entry Document One (codes "versions") (any item.Table)
rule_of key.Number = entry Version One (codes "number") (number 0 4294967295)
rule_of key.Base = entry Version Three (codes "base") (form.NumberIf 0 4294967295)
rule_of key.Services = entry Version One (codes "services") (any item.Table)
rule_of key.Vip = entry Service One (codes "vip") form.Address
rule_of key.Proto = entry Service One (codes "proto") (form.Word words.Protocol)
rule_of key.Port = entry Service One (codes "port") (number 0 65535)
rule_of key.Members = entry Service One (codes "members") (any item.Text)
rule_of key.Remove = entry Pool Three (codes "remove") (any item.Text)
rule_of key.Down = entry Pool Three (codes "down") (any item.Text)
rule_of key.Drain = entry Pool Three (codes "drain") (any item.Text)
rule_of key.Up = entry Pool Three (codes "up") (any item.Text)
rule_of key.Weights = entry Pool Three (codes "weights") (any item.Text)
rule_of key.Add = entry Pool Three (codes "add") (any item.Text)

abbrev pub all_keys : List Key
all_keys =
    key.Format ∷ key.Size ∷ key.Hash ∷ key.Scheme ∷ key.Spread ∷ key.Workers ∷ key.Capacity ∷ key.Ring ∷ key.Check ∷ key.Idle ∷
    key.Nodes ∷ key.Servers ∷ key.Steps ∷ key.Versions ∷ key.Number ∷ key.Base ∷ key.Services ∷ key.Vip ∷ key.Proto ∷ key.Port ∷
    key.Members ∷ key.Remove ∷ key.Down ∷ key.Drain ∷ key.Up ∷ key.Weights ∷ key.Add ∷ []

abbrev pub key_name : Key → List ℕ
key_name k = (rule_of k).name

abbrev pub form_of : Key → Form
form_of k = (rule_of k).form

-- such a key may stand in this table
abbrev pub is_home : Home → Owner → Bool
is_home Document owner.Document = true
is_home Version owner.Version = true
is_home Service owner.Service = true
is_home Pool owner.Version = true
is_home Pool owner.Service = true
is_home _ _ = false

-- a scenario of the first format has what came with the second
abbrev pub has : Format → Format → Bool
has f One = true
has Two Two = true
has Three Two = true
has Three Three = true
has _ _ = false

-- this table may have the key in a document of this format
abbrev pub stands_in : Owner → Format → Key → Bool
stands_in o f k = is_home (rule_of k).home o && has f (rule_of k).since

-- the names of those keys that this table may have in a document of this format
abbrev pub names_in : Owner → Format → List Key → List (List ℕ)
names_in o f [] = []
names_in o f (k ∷ ks) = if stands_in o f k then key_name k ∷ names_in o f ks else names_in o f ks

-- the names of all keys that this table may have in a document of this format
unfoldable pub keys_of : Owner → Format → List (List ℕ)
keys_of o f = names_in o f all_keys

-- those of the document, of a version and of a service
abbrev pub root_keys : Format → List (List ℕ)
root_keys f = keys_of owner.Document f

abbrev pub version_keys : Format → List (List ℕ)
version_keys f = keys_of owner.Version f

abbrev pub service_keys : Format → List (List ℕ)
service_keys f = keys_of owner.Service f

-- the number at a key of a number, in its range
abbrev pub number_in : Form → List ℕ → Members → Option ℕ
number_in (form.Number low high missing) name ms = number_by low high missing name ms
number_in _ name ms = None

abbrev pub number_of : Key → Members → Option ℕ
number_of k ms = number_in (form_of k) (key_name k) ms

-- the number at a key of a number that may be missing
abbrev pub number_if_in : Form → List ℕ → Members → Option (Option ℕ)
number_if_in (form.NumberIf low high) name ms = number_if low high name ms
number_if_in _ name ms = None

abbrev pub number_if_of : Key → Members → Option (Option ℕ)
number_if_of k ms = number_if_in (form_of k) (key_name k) ms

-- the flag at a key of a flag
abbrev pub flag_in : Form → List ℕ → Members → Option Bool
flag_in (form.Flag missing) name ms = flag_or missing name ms
flag_in _ name ms = None

abbrev pub flag_of : Key → Members → Option Bool
flag_of k ms = flag_in (form_of k) (key_name k) ms

-- the limits of a number
abbrev pub low_of : Form → ℕ
low_of (form.Number low high missing) = low
low_of _ = 0

abbrev pub high_of : Form → ℕ
high_of (form.Number low high missing) = high
high_of _ = 0

abbrev pub lowest : Key → ℕ
lowest k = low_of (form_of k)

abbrev pub highest : Key → ℕ
highest k = high_of (form_of k)
