use Rattle.std.proofs.Common.{◌≡◌, ◌++◌, drop, map}
use Rattle.version_drafts.specs.Plain.{plain_service}
use Rattle.scenario_pools.proofs.changing.copied_services.Given as goal

abbrev pub invariant-loop-service : goal.invariant-loop-service
invariant-loop-service l = map plain_service l.found.items ++ map plain_service (drop l.service-index l.services) ≡ map plain_service l.services
