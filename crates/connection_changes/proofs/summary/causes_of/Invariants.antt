use Rattle.std.proofs.Common.{◌≡◌, take, map}
use Rattle.selection.specs.Candidates.{candidates_of}
use Rattle.run_report.specs.Causes.{Lookups}
use Rattle.connection_changes.specs.Changes.{cause_in}
use Rattle.connection_changes.proofs.summary.causes_of.Given as goal

abbrev pub invariant-loop-change : goal.invariant-loop-change
invariant-loop-change l = (lookups : Lookups) → lookups.ups ≡ (λ v x. candidates_of l.catalogue v x) → lookups.versions ≡ l.catalogue.versions → l.causes.items ≡ map (λ c. cause_in lookups l.idle c) (take l.change-index l.changes)
