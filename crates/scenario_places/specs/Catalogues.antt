-- The catalogue of some versions that are added in order, and where they are refused.
use Rattle.std.specs.Prelude.{◌≡◌, ℕ, List, [], map, Option, Some, None, ⊤}
use Rattle.pool_versions.specs.Pool.{Pools}
use Rattle.pool_versions.specs.declared.backend.Member.{Member}
use Rattle.pool_versions.specs.declared.catalogue.PoolFault.{PoolFault}
use Rattle.pool_versions.specs.declared.catalogue.PoolFault.TheVariants as pool
use Rattle.version_drafts.specs.Plain.{PlainVersion, plain_version}
use Rattle.version_drafts.specs.declared.place.Place.{Place}
use Rattle.scenario_places.specs.Adding.{first_refused}
use Rattle.scenario_places.specs.PoolPlaces.{pool_place_of}

-- the catalogue of some versions that were added in order
pub record IsCatalogueOf (size : ℕ) (vs : List (PlainVersion Member)) (c : Pools) : Type 0 where
  pub sized : c.size ≡ size
  pub holds : map plain_version c.versions ≡ vs
  pub good : first_refused size [] vs ≡ None

-- why versions are refused
abbrev pub IsPoolRefused : ℕ → List (PlainVersion Member) → PoolFault → Type 0
IsPoolRefused size vs pool.Memory = ⊤
IsPoolRefused size vs f = first_refused size [] vs ≡ Some f

-- where versions are refused by a fault
abbrev pub IsPoolAt : ℕ → List (PlainVersion Member) → PoolFault → Option Place → Type 0
IsPoolAt size vs pool.Memory o = o ≡ None
IsPoolAt size vs f None = ⊥
IsPoolAt size vs f (Some p) = pool_place_of size vs ≡ Some p
