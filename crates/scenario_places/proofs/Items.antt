-- Options and items.
use Rattle.std.proofs.Common.{◌≡◌, suc, List, [], ◌∷◌, length, Option, Some, None, is_some, option_map, refl, ap}
use Rattle.toml.specs.View.{items_view}
use Rattle.toml.specs.declared.value.Value.{Value}
use Rattle.scenario_places.specs.MemberPlaces.{count}

pub some_map : {A B : Type 0} (f : A → B) (o : Option A) → is_some (option_map f o) ≡ is_some o
some_map f None = refl
some_map f (Some x) = refl

pub count_view : (vs : List Value) → count (items_view vs) ≡ length vs
count_view [] = refl
count_view (v ∷ vs) = ap suc (count_view vs)
