-- A table's keys and an array's items beside their views.
use Rattle.std.proofs.Common.{◌≡◌, ℕ, ◌+◌, ◌<◌, ◌&&◌, ◌||◌, Bool, nat_eq, List, [], ◌∷◌, length, drop, get_or, map, String, Global, string_bytes, refl, ap}
use Rattle.std.specs.List.{list_any, list_all}
use Rattle.std.specs.Map.{keys_of}
use Rattle.std.specs.Cmp.Lexicographic.{pointwise}
use Rattle.toml.specs.Data.{item}
use Rattle.toml.specs.View.{view, items_view, members_view}
use Rattle.toml.specs.declared.value.Value.{Value}
use Rattle.toml.proofs.Views.{items_view-drop}
use Rattle.scenario_keys.specs.Lookups.{has_only}

pub has_only_keys : (names : List (List ℕ)) (es : List (String Global × Value)) → list_all (λ k. list_any (pointwise nat_eq (string_bytes k)) names) (keys_of es) ≡ has_only names (members_view es)
has_only_keys names [] = refl
has_only_keys names (e ∷ es) = ap (λ b. list_any (pointwise nat_eq (string_bytes e.0)) names && b) (has_only_keys names es)

-- the items from an index on are the one there and those behind it
pub items_from : (vs : List Value) (i : ℕ) (d : Value) → i < length vs → items_view (drop i vs) ≡ item (view (get_or vs i d)) (items_view (drop (i + 1) vs))
items_from vs i d h = items_view-drop vs i d h

-- a test of what the elements give
pub any_of_mapped : {A B : Type 0} (test : B → Bool) (f : A → B) (xs : List A) → list_any test (map f xs) ≡ list_any (λ x. test (f x)) xs
any_of_mapped test f [] = refl
any_of_mapped test f (x ∷ xs) = ap (λ b. test (f x) || b) (any_of_mapped test f xs)
