use Rattle.std.proofs.Common.{◌≡◌, ◌++◌, take, string_bytes}
use Rattle.std.specs.List.{flat_map}
use Rattle.table_commands.specs.Compare.{slot_moved_as}
use Rattle.table_commands.proofs.compare_text.push_moved_lines.Given as goal

abbrev pub invariant-loop-slot : goal.invariant-loop-slot
invariant-loop-slot g l =
    string_bytes l.text ≡ string_bytes l.initial.text ++ flat_map (slot_moved_as l.form (g.T.NamedSlots.table l.old) (g.T.NamedSlots.table l.new)) (take l.slot-index l.slots)
