use Rattle.std.proofs.Common.{◌≡◌, ◌++◌, drop, map, option_map}
use Rattle.scenario_keys.specs.Lookups.{all_of}
use Rattle.version_drafts.specs.Plain.{plain_service}
use Rattle.version_drafts.specs.Drafts.{plain_service_draft}
use Rattle.scenario_pools.specs.Writing.{stated}
use Rattle.scenario_pools.specs.BadWords.{bad_in_stated}
use Rattle.scenario_pools.proofs.writing.all_stated.Given as goal

abbrev pub invariant-loop-number : goal.invariant-loop-number
invariant-loop-number l =
    (option_map (λ rest. map plain_service l.services.items ++ rest) (all_of stated (map plain_service_draft (drop l.number l.drafts))) ≡ all_of stated (map plain_service_draft l.drafts))
    × (bad_in_stated l.number (map plain_service_draft (drop l.number l.drafts)) ≡ bad_in_stated 0 (map plain_service_draft l.drafts))
