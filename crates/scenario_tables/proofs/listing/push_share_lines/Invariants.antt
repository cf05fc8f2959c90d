use Rattle.std.proofs.Common.{◌≡◌, ◌++◌, take, string_bytes}
use Rattle.std.specs.List.{flat_map}
use Rattle.scenario_tables.specs.Tables.{share_line_as}
use Rattle.scenario_tables.proofs.listing.push_share_lines.Given as goal

abbrev pub invariant-loop-backend : goal.invariant-loop-backend
invariant-loop-backend l = string_bytes l.text ≡ string_bytes l.initial.text ++ flat_map (share_line_as l.form l.table) (take l.backend-index l.backends)
