use Rattle.std.proofs.Common.{◌≡◌, ◌++◌, drop, string_bytes}
use Rattle.std.specs.List.{flat_map}
use Rattle.run_report.specs.Report.{causes, count_of}
use Rattle.json_lines.specs.Reports.{drop_member}
use Rattle.json_lines.proofs.reports.push_drops.Given as goal

abbrev pub invariant-loop-cause : goal.invariant-loop-cause
invariant-loop-cause l =
    string_bytes l.text ++ flat_map (λ cause. drop_member cause (count_of l.counts cause)) (drop l.cause-index causes) ≡ string_bytes l.initial.text ++ flat_map (λ cause. drop_member cause (count_of l.counts cause)) causes
