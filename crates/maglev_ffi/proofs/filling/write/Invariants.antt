use Rattle.std.proofs.Common.{◌≡◌, ◌≤◌, ◌<◌, ℕ, length, get_or}
use Rattle.maglev_ffi.proofs.filling.write.Given as goal

abbrev pub invariant-loop-slot : goal.invariant-loop-slot
invariant-loop-slot l = record {
  within : l.slot ≤ length l.slots;
  written : (k : ℕ) → k < l.slot → get_or l.slots k 0 ≡ get_or l.places (get_or l.table.owners k 0) 0;
}
