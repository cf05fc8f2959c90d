use Rattle.std.proofs.Common.{◌≡◌, drop, map}
use Rattle.std.specs.List.{list_any}
use Rattle.version_drafts.specs.Plain.{plain_service}
use Rattle.version_drafts.specs.Changes.{is_of}
use Rattle.scenario_pools.proofs.changing.one_has_name.Given as goal

abbrev pub invariant-loop-service : goal.invariant-loop-service
invariant-loop-service l = list_any (λ s. list_any (is_of l.name) s.members) (map plain_service (drop l.service-index l.services)) ≡ list_any (λ s. list_any (is_of l.name) s.members) (map plain_service l.services)
