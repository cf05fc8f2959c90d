use Rattle.std.proofs.Common.{◌≡◌, ◌++◌, string_bytes}
use Rattle.table_entrants.specs.Ranking.{names_of}
use Rattle.table_commands.specs.Text.{slot_lines_as}
use Rattle.table_commands.proofs.table_text.push_slot_lines.Given as goal

abbrev pub invariant-loop-slot : goal.invariant-loop-slot
invariant-loop-slot l = string_bytes l.text ≡ string_bytes l.initial.text ++ slot_lines_as l.form (names_of l.entrants) l.table.owners l.slot
