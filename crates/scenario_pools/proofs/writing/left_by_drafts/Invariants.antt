use Rattle.std.proofs.Common.{◌≡◌, drop, map}
use Rattle.version_drafts.specs.Drafts.{plain_service_draft}
use Rattle.scenario_pools.specs.Writing.{left_by_drafts}
use Rattle.scenario_pools.proofs.writing.left_by_drafts.Given as goal

abbrev pub invariant-loop-draft : goal.invariant-loop-draft
invariant-loop-draft l = left_by_drafts l.room (map plain_service_draft (drop l.draft-index l.drafts)) ≡ left_by_drafts l.fn.room (map plain_service_draft l.drafts)
