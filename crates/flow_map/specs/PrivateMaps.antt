-- Pairs of flows and values at places, which are found by their flows' hashes.
use Rattle.std.specs.Prelude.{◌≡◌, ◌<◌, ◌^◌, ℕ, Bool, false, List, [], ◌∷◌, length, get_or, slice_index, Option, Some, None}
use Rattle.five_tuple.specs.declared.Flow.{Flow}
use Rattle.connection_table.specs.declared.key.TableKey.{TableKey}
use Rattle.connection_table.specs.Tied.{flow_hash}
use Rattle.connection_table.specs.Touches.{same_flow}
use Rattle.flow_map.specs.Maps.{value_of}

module _ {V : Type 0} where
  -- the pair is the flow's
  abbrev pub is_of : Flow → Option (Flow × V) → Bool
  is_of x None = false
  is_of x (Some p) = same_flow p.0 x

  -- each flow is there once
  abbrev pub EachOnce : List (Flow × V) → Type 0
  EachOnce [] = Unit {0}
  EachOnce (p ∷ ps) = (value_of p.0 ps ≡ None) × EachOnce ps

  -- each place's hash is that of its flow
  abbrev pub AreHashed : (Flow → ℕ) → List ℕ → List (Flow × V) → Type 0
  AreHashed hash hashes ps = (k : ℕ) (d : Flow × V) → k < length ps → slice_index hashes k ≡ hash (get_or ps k d).0

  -- each pair has its flow's hash at its place, and no flow has two
  pub record AreTied (key : TableKey) (hashes : List ℕ) (ps : List (Flow × V)) : Type 0 where
    pub few : length ps < 2 ^ 32
    pub long : length hashes ≡ length ps
    pub hashed : AreHashed (flow_hash key) hashes ps
    pub once : EachOnce ps
