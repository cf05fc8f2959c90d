use Rattle.std.proofs.Common.{◌≡◌, drop, map}
use Rattle.version_drafts.specs.Plain.{plain_service}
use Rattle.scenario_places.specs.PoolPlaces.{double_name_from}
use Rattle.scenario_places.proofs.pools.double_name_place.Given as goal

abbrev pub invariant-loop-n : goal.invariant-loop-n
invariant-loop-n l = double_name_from l.version l.n (map plain_service (drop l.n l.services)) ≡ double_name_from l.version 0 (map plain_service l.services)
