use Rattle.std.proofs.Common.{◌≡◌, ◌++◌, drop, string_bytes}
use Rattle.std.specs.List.{flat_map}
use Rattle.json_lines.specs.Shares.{row_json}
use Rattle.json_lines.proofs.shares.push_rows.Given as goal

abbrev pub invariant-loop-row : goal.invariant-loop-row
invariant-loop-row l = string_bytes l.text ++ flat_map row_json (drop l.row-index l.rows) ≡ string_bytes l.initial.text ++ flat_map row_json l.rows
