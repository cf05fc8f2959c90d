use Rattle.table_entrants.specs.Ranking.{names_of}
use Rattle.table_commands.proofs.Lines.{slot_lines_more}
use Rattle.table_commands.proofs.table_text.push_slot_lines.Goals as goal

pub loop-slot-preserved : goal.loop-slot-preserved
loop-slot-preserved c =
    slot_lines_more c.args.form (names_of c.args.entrants.now) c.args.table.now.owners _ _ _ c.loop-slot.slot _ c.in_ok-push_slot_line.ensures c.loop-slot.invariant c.name_at-name.ensures
