-- What was pushed into rings, of which some may not be there.
use Rattle.std.specs.Prelude.{ℕ, Bool, List, [], ◌∷◌, ◌++◌, Option, Some, None, is_some, slice_index_or, slice_set}
use Rattle.rtrb.specs.declared.producer.Producer.{Producer}
use Rattle.rtrb.specs.Ring.{sent, known_free}

-- what was pushed into a ring, if the ring is there
abbrev pub sent_into : {T A P : Type 0} → Option (Producer T A P) → Option (List T)
sent_into None = None
sent_into (Some r) = Some (sent r)

-- how many places of a ring are known to be free; one that isn't there has none
abbrev pub free_in : {T A P : Type 0} → Option (Producer T A P) → ℕ
free_in None = 0
free_in (Some r) = known_free r

-- one more item; a ring that isn't there takes none
abbrev pub with_item : {X : Type 0} → X → Option (List X) → Option (List X)
with_item x None = None
with_item x (Some xs) = Some (xs ++ x ∷ [])

-- one more item in one of them
abbrev pub put_in : {X : Type 0} → List (Option (List X)) → ℕ → X → List (Option (List X))
put_in rings at x = slice_set rings at (with_item x (slice_index_or rings at None))

-- the ring of this number is there
abbrev pub is_there : {X : Type 0} → List (Option (List X)) → ℕ → Bool
is_there rings at = is_some (slice_index_or rings at None)
