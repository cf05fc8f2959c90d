-- How many packets went to each destination, and which destinations are busy.
use Rattle.std.specs.Prelude.{Bool, not, nat_lt, List, [], ◌∷◌, map, filter, count_by}
use Rattle.std.specs.List.Sorted.{IsPermutation, IsSortedBy, IsStableBy}
use Rattle.pool_versions.specs.declared.key.ServiceKey.{ServiceKey}
use Rattle.pool_versions.specs.Pool.{same_key}
use Rattle.scenario_sketch.specs.declared.counted.Counted.{Counted}

-- each destination once, in the order in which they came first
abbrev pub destinations_among : List ServiceKey → List ServiceKey
destinations_among [] = []
destinations_among (d ∷ ds) = d ∷ filter (λ k. not (same_key d k)) (destinations_among ds)

-- each of them with the number of packets that went to it
abbrev pub counted : List ServiceKey → List Counted
counted ds = map (λ k. record { service = k; packets = count_by (same_key k) ds }) (destinations_among ds)

-- more than a handful of packets went there
abbrev pub is_busy : Counted → Bool
is_busy c = nat_lt 5 c.packets

abbrev pub busy : List ServiceKey → List Counted
busy ds = filter is_busy (counted ds)

-- more packets went to the first one
abbrev pub is_busier : Counted → Counted → Bool
is_busier a b = nat_lt b.packets a.packets

-- the same destinations, none behind one to which fewer packets went; those to which as many went are in the same order
pub record IsRanked (given ranked : List Counted) : Type 0 where
  pub permutation : IsPermutation given ranked
  pub descending : IsSortedBy is_busier ranked
  pub ties : IsStableBy is_busier given ranked
