use Rattle.std.proofs.Common.{◌≡◌, [], drop, map}
use Rattle.version_drafts.specs.Plain.{plain_version}
use Rattle.version_drafts.specs.Drafts.{plain_version_draft}
use Rattle.scenario_pools.specs.Writing.{written_behind}
use Rattle.scenario_pools.specs.BadWords.{bad_word_from}
use Rattle.scenario_pools.proofs.writing.all_written.Given as goal

abbrev pub invariant-loop-number : goal.invariant-loop-number
invariant-loop-number l =
    (written_behind l.room (map plain_version l.versions.items) (map plain_version_draft (drop l.number l.drafts)) ≡ written_behind 1048576 [] (map plain_version_draft l.drafts))
    × (bad_word_from l.room (map plain_version l.versions.items) l.number (map plain_version_draft (drop l.number l.drafts)) ≡ bad_word_from 1048576 [] 0 (map plain_version_draft l.drafts))
