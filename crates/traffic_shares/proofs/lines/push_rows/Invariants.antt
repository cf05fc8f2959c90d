use Rattle.std.proofs.Common.{◌≡◌, ◌++◌, drop, string_bytes}
use Rattle.std.specs.List.{flat_map}
use Rattle.traffic_shares.specs.Texts.{row_line}
use Rattle.traffic_shares.proofs.lines.push_rows.Given as goal

abbrev pub invariant-loop-row : goal.invariant-loop-row
invariant-loop-row l = string_bytes l.text ++ flat_map row_line (drop l.row-index l.rows) ≡ string_bytes l.initial.text ++ flat_map row_line l.rows
