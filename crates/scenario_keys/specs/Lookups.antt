-- What the members of a document say at a key.
use Rattle.std.specs.Prelude.{ℕ, ℤ, pos, negsuc, Bool, true, ◌&&◌, nat_le, nat_eq, if◌then◌else◌, List, [], ◌∷◌, Option, Some, None, option_and_then}
use Rattle.std.specs.Prelude.{option_map}
use Rattle.std.specs.List.{list_any}
use Rattle.std.specs.Cmp.Lexicographic.{pointwise}
use Rattle.toml.specs.Data.{Data, Items, no_items, item, Members, no_members, member, get_member, as_integer, as_str, as_bool, as_array}

-- a number in a range
abbrev pub natural_in : ℕ → ℕ → ℤ → Option ℕ
natural_in low high (pos n) = if nat_le low n && nat_le n high then Some n else None
natural_in low high (negsuc n) = None

abbrev pub natural_of : ℕ → ℕ → Data → Option ℕ
natural_of low high d = option_and_then (natural_in low high) (as_integer d)

-- the number in a range at a key
abbrev pub number_at : ℕ → ℕ → List ℕ → Members → Option ℕ
number_at low high key ms = option_and_then (natural_of low high) (get_member key ms)

-- what a value gives, where there is one, and else another thing
abbrev pub given_or : {A B : Type 0} → A → (B → Option A) → Option B → Option A
given_or other f None = Some other
given_or other f (Some b) = f b

-- the number in a range at a key, another one where the key is missing
abbrev pub number_or : ℕ → ℕ → ℕ → List ℕ → Members → Option ℕ
number_or other low high key ms = given_or other (natural_of low high) (get_member key ms)

-- the number in a range at a key; where the key is missing it is the third, if there is one
abbrev pub number_by : ℕ → ℕ → Option ℕ → List ℕ → Members → Option ℕ
number_by low high None key ms = number_at low high key ms
number_by low high (Some other) key ms = number_or other low high key ms

-- the number in a range at a key, none where the key is missing
abbrev pub number_if : ℕ → ℕ → List ℕ → Members → Option (Option ℕ)
number_if low high key ms = given_or None (λ d. option_map (λ n. Some n) (natural_of low high d)) (get_member key ms)

-- the flag at a key, another one where the key is missing
abbrev pub flag_or : Bool → List ℕ → Members → Option Bool
flag_or other key ms = given_or other as_bool (get_member key ms)

-- the text at a key
abbrev pub text_at : List ℕ → Members → Option (List ℕ)
text_at key ms = option_and_then as_str (get_member key ms)

-- the array at a key
abbrev pub items_at : List ℕ → Members → Option Items
items_at key ms = option_and_then as_array (get_member key ms)

-- what each item is, where each is something
abbrev pub all_items : {B : Type 0} → (Data → Option B) → Items → Option (List B)
all_items f no_items = Some []
all_items f (item d ds) = option_and_then (λ b. option_map (λ rest. b ∷ rest) (all_items f ds)) (f d)

-- what each element is, where each is something
abbrev pub all_of : {A B : Type 0} → (A → Option B) → List A → Option (List B)
all_of f [] = Some []
all_of f (a ∷ as') = option_and_then (λ b. option_map (λ rest. b ∷ rest) (all_of f as')) (f a)

-- each key is one of these
abbrev pub has_only : List (List ℕ) → Members → Bool
has_only keys no_members = true
has_only keys (member k d ms) = list_any (pointwise nat_eq k) keys && has_only keys ms
