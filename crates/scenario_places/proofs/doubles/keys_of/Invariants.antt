use Rattle.std.proofs.Common.{◌≡◌, ◌++◌, drop, map}
use Rattle.version_drafts.specs.Plain.{plain_service}
use Rattle.scenario_places.specs.PoolPlaces.{key_of}
use Rattle.scenario_places.proofs.doubles.keys_of.Given as goal

abbrev pub invariant-loop-service : goal.invariant-loop-service
invariant-loop-service l = l.keys.items ++ map key_of (map plain_service (drop l.service-index l.services)) ≡ map key_of (map plain_service l.services)
