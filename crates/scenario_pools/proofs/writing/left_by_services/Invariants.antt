use Rattle.std.proofs.Common.{◌≡◌, drop, map}
use Rattle.version_drafts.specs.Plain.{plain_service}
use Rattle.scenario_pools.specs.Writing.{left_by_services}
use Rattle.scenario_pools.proofs.writing.left_by_services.Given as goal

abbrev pub invariant-loop-service : goal.invariant-loop-service
invariant-loop-service l = left_by_services l.more l.room (map plain_service (drop l.service-index l.services)) ≡ left_by_services l.more l.fn.room (map plain_service l.services)
