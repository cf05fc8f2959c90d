-- What the entries of a list of what was handled stand for.
use Rattle.std.specs.Prelude.{◌≡◌, ◌^◌, ◌&&◌, Bool, true, List, map, Option, Some, option_map, slice_get, unwrap_or, is_some, nat_lt, vec_len, vec_capacity}
use Rattle.std.specs.List.{All}
use Rattle.std.specs.Global.{Vec}
use Rattle.pool_versions.specs.declared.backend.Backend.{Backend}
use Rattle.forwarder.specs.declared.Choice.{Choice}
use Rattle.forwarder.specs.declared.Choice.TheVariants as choices
use Rattle.handled_list.specs.declared.handled.Handled.{Handled}
use Rattle.handled_list.specs.declared.kept.Kept.{Kept}
use Rattle.handled_list.specs.declared.kept.KeptChoice.{KeptChoice}
use Rattle.handled_list.specs.declared.kept.KeptChoice.TheVariants.{Known, Stranger, NoService, NoBackend}

-- the choice that is kept, where its backend is there
abbrev pub told : List Backend → List Backend → KeptChoice → Option Choice
told bs ss (Known u p o) = option_map (λ b. choices.Forward b o) (slice_get bs p)
told bs ss (Stranger u i o) = option_map (λ b. choices.Forward b o) (slice_get ss i)
told bs ss (NoService u) = Some choices.NoService
told bs ss (NoBackend u) = Some choices.NoBackend

-- whether a new entry was due and none was made
abbrev pub unstored_of : KeptChoice → Bool
unstored_of (Known u p o) = u
unstored_of (Stranger u i o) = u
unstored_of (NoService u) = u
unstored_of (NoBackend u) = u

-- the choice that is kept. One whose backend isn't there opens as no backend.
abbrev pub opened_choice : List Backend → List Backend → KeptChoice → Choice
opened_choice bs ss k = unwrap_or (told bs ss k) choices.NoBackend

-- what an entry stands for
abbrev pub opened : List Backend → List Backend → Kept → Handled
opened bs ss k = record { item = k.item; version = k.version; choice = opened_choice bs ss k.choice; unstored = unstored_of k.choice }

-- the list that is meant
abbrev pub meant : List Backend → List Backend → List Kept → List Handled
meant bs ss ks = map (λ k. opened bs ss k) ks

-- the entries' backends are there
abbrev pub AreThere : List Backend → List Backend → List Kept → Type 0
AreThere bs ss ks = All (λ k. is_some (told bs ss k.choice) ≡ true) ks

-- each choice that is there is the same by the other lists
abbrev pub Tells : List Backend → List Backend → List Backend → List Backend → Type 0
Tells bs ss bs' ss' = (k : KeptChoice) (c : Choice) → told bs ss k ≡ Some c → told bs' ss' k ≡ Some c

-- there is room for one more entry, and for a backend that gets no place
abbrev pub is_ready : Vec Kept → Vec Backend → Bool
is_ready ks ss = nat_lt (vec_len ks) (vec_capacity ks) && (nat_lt (vec_len ss) (vec_capacity ss) && nat_lt (vec_len ss) (2 ^ 32))
