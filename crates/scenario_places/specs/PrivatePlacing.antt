-- What is told of a version that a catalogue refused.
use Rattle.std.specs.Prelude.{◌≡◌, ◌≢◌, ◌⊎◌, map, length, Option, None}
use Rattle.pool_versions.specs.Pool.{Pools}
use Rattle.pool_versions.specs.declared.service.Version.{Version}
use Rattle.pool_versions.specs.declared.catalogue.PoolFault.{PoolFault}
use Rattle.pool_versions.specs.declared.catalogue.PoolFault.TheVariants as pool
use Rattle.version_drafts.specs.Plain.{plain_version}
use Rattle.version_drafts.specs.declared.place.Place.{Place}
use Rattle.scenario_places.specs.PoolPlaces.{version_place}

-- of a version that was refused by fault f, beside those of a catalogue, this fault and this place are told
abbrev pub IsPlaced : Pools → Version → PoolFault → PoolFault → Option Place → Type 0
IsPlaced c v f told o =
    ((told ≡ pool.Memory) × (o ≡ None))
    ⊎ ((told ≡ f) × (f ≢ pool.Memory) × (o ≡ version_place c.size (map plain_version c.versions) (length c.versions) (plain_version v)))
