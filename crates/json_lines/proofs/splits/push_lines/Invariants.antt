use Rattle.std.proofs.Common.{◌≡◌, ◌++◌, drop, string_bytes}
use Rattle.std.specs.List.{flat_map}
use Rattle.run_report.specs.Causes.{lookups_of}
use Rattle.json_lines.specs.Splits.{split_json}
use Rattle.json_lines.proofs.splits.push_lines.Given as goal

abbrev pub invariant-loop-split : goal.invariant-loop-split
invariant-loop-split g l =
    string_bytes l.text ++ flat_map (split_json (lookups_of (g.H.FlowHash.plain l.hash) l.catalogue.size l.catalogue)) (drop l.split-index l.splits) ≡ string_bytes l.initial.text ++ flat_map (split_json (lookups_of (g.H.FlowHash.plain l.hash) l.catalogue.size l.catalogue)) l.splits
