use Rattle.std.proofs.Common.{◌≡◌, [], drop, take, map}
use Rattle.version_drafts.specs.Drafts.{plain_version_draft}
use Rattle.version_drafts.specs.Reading.{are_in_order}
use Rattle.version_drafts.specs.Places.{first_unordered}
use Rattle.version_drafts.proofs.reading.first_unordered.Given as goal

abbrev pub invariant-loop-place : goal.invariant-loop-place
invariant-loop-place l = record {
  order : are_in_order (map plain_version_draft (take l.place l.drafts)) (map plain_version_draft (drop l.place l.drafts)) ≡ are_in_order [] (map plain_version_draft l.drafts);
  place : first_unordered (map plain_version_draft (take l.place l.drafts)) l.place (map plain_version_draft (drop l.place l.drafts)) ≡ first_unordered [] 0 (map plain_version_draft l.drafts);
}
