use Rattle.std.proofs.Common.{◌≡◌, ◌++◌, string_bytes}
use Rattle.std.specs.Iterator.Adapters.{zip_first, zip_second}
use Rattle.std.specs.Slice.Iter.{iter_rest}
use Rattle.run_report.specs.Report.{drops_text}
use Rattle.run_report.proofs.Walks.{drop_lines}
use Rattle.run_report.proofs.reports.push_drops.Given as goal

abbrev pub invariant-loop-cause : goal.invariant-loop-cause
invariant-loop-cause l =
    string_bytes l.text ++ drop_lines (iter_rest (zip_first l.cause-iterator)) (iter_rest (zip_second l.cause-iterator)) ≡ string_bytes l.initial.text ++ drops_text l.counts
