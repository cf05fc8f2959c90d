use Rattle.std.proofs.Common.{◌≡◌, [], drop, take, map}
use Rattle.version_drafts.specs.Plain.{plain_service}
use Rattle.version_drafts.specs.Drafts.{plain_service_draft}
use Rattle.scenario_pools.specs.Writing.{with_drafts}
use Rattle.scenario_pools.specs.BadWords.{bad_in_drafts}
use Rattle.scenario_pools.proofs.basing.with_drafts.Given as goal

abbrev pub invariant-loop-number : goal.invariant-loop-number
invariant-loop-number l =
    (with_drafts (map plain_service_draft (take l.number l.drafts)) (map plain_service_draft (drop l.number l.drafts)) (map plain_service l.services.items)
    ≡ with_drafts [] (map plain_service_draft l.drafts) (map plain_service l.fn.services.items))
    × (bad_in_drafts (map plain_service_draft (take l.number l.drafts)) l.number (map plain_service_draft (drop l.number l.drafts)) (map plain_service l.services.items)
    ≡ bad_in_drafts [] 0 (map plain_service_draft l.drafts) (map plain_service l.fn.services.items))
