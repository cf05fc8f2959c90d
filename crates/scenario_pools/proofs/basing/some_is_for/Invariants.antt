use Rattle.std.proofs.Common.{◌≡◌, drop, map}
use Rattle.std.specs.List.{list_any}
use Rattle.pool_versions.specs.Pool.{same_key}
use Rattle.version_drafts.specs.Drafts.{plain_service_draft, draft_key}
use Rattle.scenario_pools.proofs.basing.some_is_for.Given as goal

abbrev pub invariant-loop-draft : goal.invariant-loop-draft
invariant-loop-draft l = list_any (λ d. same_key (draft_key d) l.key) (map plain_service_draft (drop l.draft-index l.drafts)) ≡ list_any (λ d. same_key (draft_key d) l.key) (map plain_service_draft l.drafts)
