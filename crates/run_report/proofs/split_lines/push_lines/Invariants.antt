use Rattle.std.proofs.Common.{◌≡◌, ◌+◌, ◌++◌, drop, string_bytes}
use Rattle.std.specs.List.{flat_map}
use Rattle.run_report.specs.Causes.{lookups_of, down_count, drained_count}
use Rattle.run_report.specs.Texts.{split_line}
use Rattle.run_report.proofs.split_lines.push_lines.Given as goal

abbrev pub invariant-loop-split : goal.invariant-loop-split
invariant-loop-split g l = record {
  text : string_bytes l.text ++ flat_map (split_line (lookups_of (g.H.FlowHash.plain l.hash) l.catalogue.size l.catalogue)) (drop l.split-index l.splits) ≡ string_bytes l.initial.text ++ flat_map (split_line (lookups_of (g.H.FlowHash.plain l.hash) l.catalogue.size l.catalogue)) l.splits;
  down : l.down + down_count (lookups_of (g.H.FlowHash.plain l.hash) l.catalogue.size l.catalogue) (drop l.split-index l.splits) ≡ down_count (lookups_of (g.H.FlowHash.plain l.hash) l.catalogue.size l.catalogue) l.splits;
  drained : l.drained + drained_count (lookups_of (g.H.FlowHash.plain l.hash) l.catalogue.size l.catalogue) (drop l.split-index l.splits) ≡ drained_count (lookups_of (g.H.FlowHash.plain l.hash) l.catalogue.size l.catalogue) l.splits;
}
