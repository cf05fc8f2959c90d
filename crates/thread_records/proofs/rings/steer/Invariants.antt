use Rattle.std.proofs.Common.{◌≡◌, ◌≤◌, ℕ, true, false, length, map}
use Rattle.steering.specs.Steering.{home_of, refuses}
use Rattle.thread_records.specs.Journals.{placed_on, no_marks}
use Rattle.thread_records.proofs.Tries.{Trying}
use Rattle.thread_records.proofs.rings.steer.Given as goal

abbrev pub invariant-loop-refused : goal.invariant-loop-refused
invariant-loop-refused g l = record {
  trying : Trying (home_of (g.H.FlowHash.plain l.hash) l.fn.steerer.workers l.fn.item.flow) l.fn.steerer l.refused l.worker l.steerer;
  long : length l.refused ≡ 16;
  paced : g.R.Rings.paced ≡ true → l.refused ≡ no_marks;
  due : l.early ≡ false → (l.was_early ≡ false) × ((w : ℕ) → refuses l.refused w ≡ true → l.ring ≤ length (placed_on (map (λ v. v.items) l.taken) w));
}

abbrev pub decreases-loop-refused : goal.decreases-loop-refused
decreases-loop-refused g l = length l.steerer.left
