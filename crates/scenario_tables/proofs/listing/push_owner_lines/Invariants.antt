use Rattle.std.proofs.Common.{◌≡◌, ◌++◌, string_bytes}
use Rattle.std.specs.List.{flat_map, range_with_len}
use Rattle.scenario_tables.specs.Tables.{owner_line_as}
use Rattle.scenario_tables.proofs.listing.push_owner_lines.Given as goal

abbrev pub invariant-loop-slot : goal.invariant-loop-slot
invariant-loop-slot l = string_bytes l.text ≡ string_bytes l.initial.text ++ flat_map (owner_line_as l.form l.table) (range_with_len 0 l.slot)
