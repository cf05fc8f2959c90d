use Rattle.std.proofs.Common.{◌≡◌, drop, map}
use Rattle.version_drafts.specs.Plain.{plain_service}
use Rattle.scenario_places.specs.PoolPlaces.{long_from}
use Rattle.scenario_places.proofs.pools.long_place.Given as goal

abbrev pub invariant-loop-n : goal.invariant-loop-n
invariant-loop-n l = long_from l.size l.version l.n (map plain_service (drop l.n l.services)) ≡ long_from l.size l.version 0 (map plain_service l.services)
