-- Counts as the entries of a map.
use Rattle.std.specs.Prelude.{ℕ, List, map, count_by}
use Rattle.pool_versions.specs.declared.key.ServiceKey.{ServiceKey}
use Rattle.pool_versions.specs.Pool.{same_key}
use Rattle.scenario_sketch.specs.declared.counted.Counted.{Counted}
use Rattle.scenario_sketch.specs.Counts.{destinations_among}

-- each destination with its count
abbrev pub count_entries : List ServiceKey → List (ServiceKey × ℕ)
count_entries ds = map (λ k. (k, count_by (same_key k) ds)) (destinations_among ds)

-- an entry as a count
abbrev pub counted_in : ServiceKey × ℕ → Counted
counted_in e = record { service = e.0; packets = e.1 }
