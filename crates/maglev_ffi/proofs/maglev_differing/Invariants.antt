use Rattle.std.proofs.Common.{◌≡◌, ◌≤◌, length}
use Rattle.std.specs.List.{filter, range_with_len}
use Rattle.maglev_table.specs.Turns.{differs}
use Rattle.maglev_ffi.proofs.maglev_differing.Given as goal

abbrev pub invariant-loop-slot : goal.invariant-loop-slot
invariant-loop-slot l = record {
  counted : l.count ≡ length (filter (differs l.old l.new) (range_with_len 0 l.slot));
  few : l.count ≤ l.slot;
}
