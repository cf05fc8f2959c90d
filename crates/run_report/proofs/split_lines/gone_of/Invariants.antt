use Rattle.std.proofs.Common.{◌≡◌, ◌+◌, drop}
use Rattle.selection.specs.Candidates.{candidates_of}
use Rattle.run_report.specs.Causes.{Lookups, down_count, drained_count}
use Rattle.run_report.proofs.split_lines.gone_of.Given as goal

abbrev pub invariant-loop-split : goal.invariant-loop-split
invariant-loop-split l = record {
  down : (lookups : Lookups) → lookups.ups ≡ (λ v x. candidates_of l.catalogue v x) → lookups.versions ≡ l.catalogue.versions → l.down + down_count lookups (drop l.split-index l.splits) ≡ down_count lookups l.splits;
  drained : (lookups : Lookups) → lookups.ups ≡ (λ v x. candidates_of l.catalogue v x) → lookups.versions ≡ l.catalogue.versions → l.drained + drained_count lookups (drop l.split-index l.splits) ≡ drained_count lookups l.splits;
}
