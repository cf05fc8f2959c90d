-- The names of keys, and which formats have more of them.
use Rattle.std.proofs.Common.{◌≡◌, ℕ, ◌&&◌, ◌||◌, Bool, true, false, nat_eq, List, [], ◌∷◌, refl, ap, ◌∙◌, sym}
use Rattle.std.specs.Prelude.{if◌then◌else◌}
use Rattle.std.specs.List.{list_any}
use Rattle.std.specs.Cmp.Lexicographic.{pointwise}
use Rattle.std.proofs.lemmas.Bool.{and_parts, and_from}
use Rattle.toml.specs.Data.{Members, no_members, member}
use Rattle.scenario_keys.specs.Lookups.{has_only}
use Rattle.scenario_keys.specs.Keys.{has, is_home, rule_of, key_name, stands_in, names_in, all_keys, keys_of}
use Rattle.scenario_keys.specs.declared.key.Key.{Key}
use Rattle.scenario_keys.specs.declared.key.Owner.{Owner}
use Rattle.scenario_keys.specs.declared.formats.Format.{Format}

one_more : (test : List ℕ → Bool) (name : List ℕ) (names : List (List ℕ)) (b : Bool) → list_any test (if b then name ∷ names else names) ≡ ((b && test name) || list_any test names)
one_more test name names true = refl
one_more test name names false = refl

-- a test of the names of keys, of which one is first
pub any_name : (test : List ℕ → Bool) (o : Owner) (f : Format) (k : Key) (ks : List Key)
    → list_any test (names_in o f (k ∷ ks)) ≡ ((stands_in o f k && test (key_name k)) || list_any test (names_in o f ks))
any_name test o f k ks = one_more test (key_name k) (names_in o f ks) (stands_in o f k)

or_parts : (a b c d : Bool) → (a ≡ true → c ≡ true) → (b ≡ true → d ≡ true) → (a || b) ≡ true → (c || d) ≡ true
or_parts true b c d left right h = ap (λ x. x || d) (left refl)
or_parts false b true d left right h = refl
or_parts false b false d left right h = right h

-- what one format has, the other has too
abbrev pub HasMore : Format → Format → Type 0
HasMore f g = (since : Format) → has f since ≡ true → has g since ≡ true

name_kept : (test : List ℕ → Bool) (o : Owner) (f g : Format) → HasMore f g → (k : Key) → (stands_in o f k && test (key_name k)) ≡ true → (stands_in o g k && test (key_name k)) ≡ true
name_kept test o f g more k h =
    let outer = and_parts (stands_in o f k) (test (key_name k)) h in
    let inner = and_parts (is_home (rule_of k).home o) (has f (rule_of k).since) outer.0 in
    and_from (stands_in o g k) (test (key_name k)) (and_from (is_home (rule_of k).home o) (has g (rule_of k).since) inner.0 (more (rule_of k).since inner.1)) outer.1

names_kept : (test : List ℕ → Bool) (o : Owner) (f g : Format) → HasMore f g → (ks : List Key) → list_any test (names_in o f ks) ≡ true → list_any test (names_in o g ks) ≡ true
names_kept test o f g more [] h = h
names_kept test o f g more (k ∷ ks) h =
    any_name test o g k ks
    ∙ or_parts (stands_in o f k && test (key_name k)) (list_any test (names_in o f ks)) (stands_in o g k && test (key_name k)) (list_any test (names_in o g ks))
    (name_kept test o f g more k) (names_kept test o f g more ks) (sym (any_name test o f k ks) ∙ h)

has_only_more : (keys more : List (List ℕ)) → ((name : List ℕ) → list_any (pointwise nat_eq name) keys ≡ true → list_any (pointwise nat_eq name) more ≡ true)
    → (ms : Members) → has_only keys ms ≡ true → has_only more ms ≡ true
has_only_more keys more kept no_members h = refl
has_only_more keys more kept (member l d ms) h =
    let p = and_parts (list_any (pointwise nat_eq l) keys) (has_only keys ms) h in
    and_from (list_any (pointwise nat_eq l) more) (has_only more ms) (kept l p.0) (has_only_more keys more kept ms p.1)

-- a table that has only keys of one format has only keys of a later one
pub keys_grow : (o : Owner) (f g : Format) → HasMore f g → (ms : Members) → has_only (keys_of o f) ms ≡ true → has_only (keys_of o g) ms ≡ true
unfolding keys_of
keys_grow o f g more ms h = has_only_more (names_in o f all_keys) (names_in o g all_keys) (λ name. names_kept (pointwise nat_eq name) o f g more all_keys) ms h
