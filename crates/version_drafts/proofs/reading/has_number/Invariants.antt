use Rattle.std.proofs.Common.{◌≡◌, ◌==◌, drop, map}
use Rattle.std.specs.List.{list_any}
use Rattle.version_drafts.specs.Drafts.{plain_version_draft}
use Rattle.version_drafts.proofs.reading.has_number.Given as goal

abbrev pub invariant-loop-draft : goal.invariant-loop-draft
invariant-loop-draft l = list_any (λ d. d.number == l.number) (map plain_version_draft (drop l.draft-index l.drafts)) ≡ list_any (λ d. d.number == l.number) (map plain_version_draft l.drafts)
