use Rattle.std.proofs.Common.{◌≡◌, ◌++◌, drop, string_bytes}
use Rattle.std.specs.List.{flat_map}
use Rattle.run_report.specs.Causes.{lookups_of}
use Rattle.json_lines.specs.Places.{change_json}
use Rattle.json_lines.proofs.places.push_changes.Given as goal

abbrev pub invariant-loop-change : goal.invariant-loop-change
invariant-loop-change g l =
    string_bytes l.text ++ flat_map (change_json (lookups_of (g.H.FlowHash.plain l.hash) l.catalogue.size l.catalogue) l.idle) (drop l.change-index l.changes) ≡ string_bytes l.initial.text ++ flat_map (change_json (lookups_of (g.H.FlowHash.plain l.hash) l.catalogue.size l.catalogue) l.idle) l.changes
