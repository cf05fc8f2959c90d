use Rattle.std.proofs.Common.{◌≡◌, ◌++◌, string_bytes}
use Rattle.table_entrants.specs.Ranking.{names_of}
use Rattle.table_commands.specs.Text.{counts_text_as}
use Rattle.table_commands.proofs.table_text.push_count_lines.Given as goal

abbrev pub invariant-loop-who : goal.invariant-loop-who
invariant-loop-who l = string_bytes l.text ≡ string_bytes l.initial.text ++ counts_text_as l.form (names_of l.entrants) l.counts l.who
