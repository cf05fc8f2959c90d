use Rattle.std.proofs.Common.{◌≡◌, drop, map}
use Rattle.version_drafts.specs.Plain.{plain_service}
use Rattle.scenario_pools.specs.Changes.{all_changed}
use Rattle.scenario_pools.specs.BadWords.{bad_change_of_all}
use Rattle.scenario_pools.proofs.changing.all_changed.Given as goal

abbrev pub invariant-loop-n : goal.invariant-loop-n
invariant-loop-n l =
    (all_changed (drop l.n l.changes) (map plain_service l.services.items) ≡ all_changed l.changes (map plain_service l.fn.services))
    × (bad_change_of_all l.n (drop l.n l.changes) (map plain_service l.services.items) ≡ bad_change_of_all 0 l.changes (map plain_service l.fn.services))
