-- What the choices of the two spreaders keep.
use Rattle.std.specs.Prelude.{◌≡◌, ℕ, ◌%◌, List, ◌∷◌, length, Some, None, Contains, is_some, true, refl}
use Rattle.std.proofs.Common.{arith, ap}
use Rattle.std.proofs.lemmas.Option.{slice_get_within, get_or_from_slice_get, slice_get-get_or}
use Rattle.std.proofs.lemmas.Nat.{mod_below}
use Rattle.spreader.specs.Choices.{node_at, node_by_turn, node_by_hash, ChoosesLive, ChoosesWhereLive, ChoosesNoneOfNone}

at_live : (live : List ℕ) (number node : ℕ) → node_at live number ≡ Some node → Contains live node
at_live live number node h =
    (number % length live, slice_get_within live (number % length live) node h, get_or_from_slice_get live (number % length live) node node h)

at_some : (node : ℕ) (live : List ℕ) (number : ℕ) → is_some (node_at (node ∷ live) number) ≡ true
at_some node live number =
    ap is_some (slice_get-get_or (node ∷ live) (number % length (node ∷ live)) node (mod_below number (length (node ∷ live)) (omega arith)))

pub by_turn_live : ChoosesLive node_by_turn
by_turn_live live flow nth node h = at_live live nth node h

pub by_turn_some : ChoosesWhereLive node_by_turn
by_turn_some node live flow nth = at_some node live nth

pub by_hash_live : (plain : List ℕ → ℕ) → ChoosesLive (node_by_hash plain)
by_hash_live plain live None nth node h = at_live live nth node h
by_hash_live plain live (Some x) nth node h = at_live live _ node h

pub by_hash_some : (plain : List ℕ → ℕ) → ChoosesWhereLive (node_by_hash plain)
by_hash_some plain node live None nth = at_some node live nth
by_hash_some plain node live (Some x) nth = at_some node live _

pub by_hash_none : (plain : List ℕ → ℕ) → ChoosesNoneOfNone (node_by_hash plain)
by_hash_none plain None nth = refl
by_hash_none plain (Some x) nth = refl
