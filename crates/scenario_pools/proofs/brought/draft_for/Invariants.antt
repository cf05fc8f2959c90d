use Rattle.std.proofs.Common.{◌≡◌, ◌+◌, drop, map}
use Rattle.std.specs.List.{position_or_len}
use Rattle.pool_versions.specs.Pool.{same_key}
use Rattle.version_drafts.specs.Plain.{plain_service, plain_key}
use Rattle.version_drafts.specs.Drafts.{plain_service_draft, draft_key}
use Rattle.scenario_pools.proofs.brought.draft_for.Given as goal

abbrev pub invariant-loop-number : goal.invariant-loop-number
invariant-loop-number l =
    l.number + position_or_len (λ d. same_key (draft_key d) (plain_key (plain_service l.service))) (map plain_service_draft (drop l.number l.drafts))
    ≡ position_or_len (λ d. same_key (draft_key d) (plain_key (plain_service l.service))) (map plain_service_draft l.drafts)
