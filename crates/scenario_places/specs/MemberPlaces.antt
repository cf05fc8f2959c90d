-- Where a word of a document's versions is no member or change, or names what isn't there.
use Rattle.std.specs.Prelude.{ℕ, suc, ◌+◌, ◌-◌, ◌==◌, nat_lt, if◌then◌else◌, List, [], ◌∷◌, Option, Some, None, option_and_then, option_map}
use Rattle.toml.specs.Data.{Data, Items, no_items, item, Members, as_table}
use Rattle.scenario_keys.specs.Lookups.{items_at}
use Rattle.scenario_keys.specs.Keys.{key_name}
use Rattle.scenario_keys.specs.declared.key.Key.{Key}
use Rattle.scenario_keys.specs.declared.key.Key.TheVariants as key
use Rattle.version_drafts.specs.Words.{change_keys}
use Rattle.version_drafts.specs.Drafts.{PlainVersionDraft}
use Rattle.scenario_pools.specs.BadWords.{bad_word_of}
use Rattle.scenario_pools.specs.declared.bad_words.BadWord.{BadWord}
use Rattle.scenario_pools.specs.declared.bad_words.BadWord.TheVariants as bad
use Rattle.version_drafts.specs.declared.place.Flaw.{Flaw}
use Rattle.version_drafts.specs.declared.place.Flaw.TheVariants as flaw
use Rattle.version_drafts.specs.declared.place.Place.{Place}
use Rattle.version_drafts.specs.declared.place.Place.TheVariants as place

-- the item of a number, the first being n
abbrev pub item_number : ℕ → ℕ → Items → Option Data
item_number n wanted no_items = None
item_number n wanted (item d ds) = if n == wanted then Some d else item_number (n + 1) wanted ds

-- the table of a number in the array at a key
abbrev pub table_number : Key → ℕ → Members → Option Members
table_number k n ms = option_and_then as_table (option_and_then (item_number 0 n) (items_at (key_name k) ms))

-- how many items there are
abbrev pub count : Items → ℕ
count no_items = 0
count (item d ds) = suc (count ds)

abbrev pub count_if : Option Items → ℕ
count_if None = 0
count_if (Some ds) = count ds

-- the item of a number, where the arrays at some keys stand one after another
abbrev pub item_among : List Key → ℕ → Members → Flaw
item_among [] n ms = flaw.Value key.Add
item_among (k ∷ ks) n ms =
    if nat_lt n (count_if (items_at (key_name k) ms)) then flaw.Item k n else item_among ks (n - count_if (items_at (key_name k) ms)) ms

-- the change of a number in a table
abbrev pub change_flaw : ℕ → Option Members → Flaw
change_flaw n None = flaw.Value key.Base
change_flaw n (Some ms) = item_among change_keys n ms

-- the place of a bad word in version v of a document
abbrev pub word_place : Members → ℕ → BadWord → Place
word_place ms v bad.Base = place.Version v (flaw.Value key.Base)
word_place ms v (bad.Change n) = place.Version v (change_flaw n (table_number key.Versions v ms))
word_place ms v (bad.Service m) = place.Service v m (flaw.Value key.Members)
word_place ms v (bad.Member m n) = place.Service v m (flaw.Item key.Members n)
word_place ms v (bad.ServiceChange m n) = place.Service v m (change_flaw n (option_and_then (table_number key.Services m) (table_number key.Versions v ms)))

-- the place of the first word for which a document's drafts are refused
abbrev pub member_place_of : Members → List PlainVersionDraft → Option Place
member_place_of ms ds = option_map (λ w. word_place ms w.0 w.1) (bad_word_of ds)
