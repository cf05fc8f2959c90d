-- The orders in which the leaving servers can be replaced, and what each moves.
use Rattle.std.specs.Prelude.{◌≡◌, ℕ, zero, suc, ◌+◌, ◌<◌, ◌≤◌, ◌==◌, Bool, true, false, not, if◌then◌else◌, List, [], ◌∷◌, ◌++◌, map, filter, length}
use Rattle.std.specs.Prelude.{get_or, set, replicate}
use Rattle.std.specs.List.{flat_map, range_with_len}
use Rattle.std.specs.Ordering.{nat_cmp, is_lt}
use Rattle.std.specs.List.Sorted.{IsPermutation, IsSortedBy, ties}
use Rattle.rollout_order.specs.declared.counts.Known.{Known}
use Rattle.rollout_order.specs.declared.orders.Order.{Order}
use Rattle.rollout_order.specs.declared.rollout.Rollout.{Rollout}
use Rattle.rollout_order.specs.Steps.{tables_at, step_moved}

-- tables are those of the services while the marked servers are done
abbrev pub IsKnown : Rollout → Known → Type 0
IsKnown r k = k.tables.items ≡ tables_at r k.marks.items

-- the servers that were replaced, by their places, in this order; marks of these; and how many slots moved in all steps
pub record PlainOrder : Type 0 where
  pub steps : List ℕ
  pub marks : List Bool
  pub moved : ℕ

abbrev pub plain_order : Order → PlainOrder
plain_order o = record { steps = o.steps.items; marks = o.marks.items; moved = o.moved }

-- the steps of an order: one for each server that leaves, and one where none does
abbrev pub width : Rollout → ℕ
width r = if length r.leavers.items == 0 then 1 else length r.leavers.items

-- before the first step
abbrev pub begun : Rollout → PlainOrder
begun r = record { steps = []; marks = replicate (width r) false; moved = 0 }

-- with one more step
abbrev pub with_step : Rollout → PlainOrder → ℕ → PlainOrder
with_step r o place = record { steps = o.steps ++ place ∷ []; marks = set o.marks place true; moved = o.moved + step_moved r o.marks place }

-- a server isn't done
abbrev pub is_open : List Bool → ℕ → Bool
is_open marks place = not (get_or marks place false)

-- with each step that is left
abbrev pub with_steps : Rollout → PlainOrder → List PlainOrder
with_steps r o = map (with_step r o) (filter (is_open o.marks) (range_with_len 0 (length o.marks)))

-- all orders of so many steps, in ascending order of the servers' names
abbrev pub orders : Rollout → ℕ → List PlainOrder
orders r zero = begun r ∷ []
orders r (suc n) = flat_map (with_steps r) (orders r n)

-- one moves fewer slots
abbrev pub fewer : Order → Order → Bool
fewer a b = is_lt (nat_cmp a.moved b.moved)

-- all orders, the fewest moved slots first, of as many in ascending order of names
pub record AreRanked (r : Rollout) (lines : List Order) : Type 0 where
  pub found : List Order
  pub all : map plain_order found ≡ orders r (width r)
  pub same : IsPermutation found lines
  pub sorted : IsSortedBy fewer lines
  pub stable : (o : Order) → filter (ties fewer o) lines ≡ filter (ties fewer o) found

-- a step moves the fewest slots, and of several such it is the first
pub record IsBest (r : Rollout) (marks : List Bool) (place : ℕ) : Type 0 where
  pub within : place < length marks
  pub left : is_open marks place ≡ true
  pub fewest : (other : ℕ) → other < length marks → is_open marks other ≡ true → step_moved r marks place ≤ step_moved r marks other
  pub first : (other : ℕ) → other < place → is_open marks other ≡ true → step_moved r marks place < step_moved r marks other

-- an order is another one with its best step
abbrev pub IsBestNext : Rollout → PlainOrder → PlainOrder → Type 0
IsBestNext r earlier o = (place : ℕ) × IsBest r earlier.marks place × (o ≡ with_step r earlier place)

-- an order each step of which is the best
abbrev pub IsGreedy : Rollout → ℕ → PlainOrder → Type 0
IsGreedy r zero o = o ≡ begun r
IsGreedy r (suc n) o = (earlier : PlainOrder) × IsGreedy r n earlier × IsBestNext r earlier o
