-- Pairs at places, which are ordered by their last use and found by their flows' hashes.
use Rattle.std.specs.Prelude.{◌≡◌, ◌<◌, ◌≤◌, ◌/◌, ◌%◌, ◌^◌, ◌++◌, ◌∷◌, ℕ, Bool, true, false, List, [], length, get_or, slice_index, Option, Some, None, bit_xor}
use Rattle.five_tuple.specs.declared.Flow.{Flow}
use Rattle.five_tuple.specs.Flow.{flow_bytes}
use Rattle.connection_table.specs.declared.key.TableKey.{TableKey}
use Rattle.connection_table.specs.declared.pairs.Pairs.{Pairs}
use Rattle.connection_table.specs.Hashing.{finished, written}
use Rattle.connection_table.specs.Picked.{pair_at, picked}
use Rattle.connection_table.specs.Tables.{EachFlowOnce}
use Rattle.connection_table.specs.Touches.{same_flow, Touch, last_touch}

-- the two halves of the hash of a flow's bytes, joined by xor
unfoldable pub flow_hash : TableKey → Flow → ℕ
flow_hash key x =
    let hash = finished (written key.seed (flow_bytes x ++ 0 ∷ 0 ∷ 0 ∷ [])) in
    bit_xor hash (hash / 2 ^ 32) % 2 ^ 32

-- the pair is the flow's
abbrev pub is_of : Flow → Option Touch → Bool
is_of x None = false
is_of x (Some t) = same_flow t.0 x

-- the pairs, the most recently used first
abbrev pub touches_of : Pairs → List Touch
touches_of t = picked t.pairs.items t.order

-- Each pair has a place in the order and its flow's hash, and no flow has two. There may be a hash more than pairs.
pub record AreTied (t : Pairs) : Type 0 where
  pub ordered : length t.order ≡ length t.pairs.items
  pub known : length t.pairs.items ≤ length t.buckets
  pub hashed : (k : ℕ) (d : Touch) → k < length t.pairs.items → slice_index t.buckets k ≡ flow_hash t.key (get_or t.pairs.items k d).0
  pub once : EachFlowOnce (touches_of t)

-- the place has the flow's pair
pub record IsPlaceOf (x : Flow) (t : Pairs) (p : ℕ) : Type 0 where
  pub some : 0 < p
  pub within : p ≤ length t.pairs.items
  pub own : same_flow (pair_at t.pairs.items p).0 x ≡ true
  pub last : last_touch x (touches_of t) ≡ Some (pair_at t.pairs.items p).1
