use Rattle.std.proofs.Common.{◌≡◌, ◌==◌, drop, find, map}
use Rattle.version_drafts.specs.Plain.{plain_version}
use Rattle.scenario_pools.proofs.writing.version_of_number.Given as goal

abbrev pub invariant-loop-version : goal.invariant-loop-version
invariant-loop-version l = find (λ v. v.number == l.number) (map plain_version (drop l.version-index l.versions)) ≡ find (λ v. v.number == l.number) (map plain_version l.versions)
