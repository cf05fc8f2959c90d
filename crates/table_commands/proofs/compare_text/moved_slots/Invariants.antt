use Rattle.std.proofs.Common.{◌≡◌, ◌<◌}
use Rattle.std.specs.List.{All, filter, range_with_len}
use Rattle.table_commands.specs.Compare.{is_moved}
use Rattle.table_commands.proofs.compare_text.moved_slots.Given as goal

abbrev pub invariant-loop-slot : goal.invariant-loop-slot
invariant-loop-slot g l = record {
  slots : l.slots.items ≡ filter (is_moved (g.T.NamedSlots.table l.old) (g.T.NamedSlots.table l.new)) (range_with_len 0 l.slot);
  below : All (λ slot. slot < l.size) l.slots.items;
}
