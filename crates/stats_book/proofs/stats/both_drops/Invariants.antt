use Rattle.std.proofs.Common.{◌≡◌, ◌<◌, ◌≤◌, length, slice_index, ℕ}
use Rattle.stats_book.specs.Counts.{sums}
use Rattle.stats_book.proofs.stats.both_drops.Given as goal

abbrev pub invariant-loop-at : goal.invariant-loop-at
invariant-loop-at l = record {
  count : length l.drops ≡ 13;
  done : (i : ℕ) → i < l.at → slice_index l.drops i ≡ slice_index (sums l.some l.others) i;
  rest : (i : ℕ) → l.at ≤ i → slice_index l.drops i ≡ slice_index l.some i;
}
