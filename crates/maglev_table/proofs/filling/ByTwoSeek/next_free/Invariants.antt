use Rattle.std.proofs.Common.{◌≡◌, ◌≤◌, ◌<◌, ◌-◌, ◌+◌, ℕ, true, false, get_or}
use Rattle.maglev_table.specs.Turns.{preferred}
use Rattle.maglev_table.proofs.filling.ByTwoSeek.next_free.Given as goal

abbrev pub invariant-loop-walk : goal.invariant-loop-walk
invariant-loop-walk l = record {
  here : l.walk.slot ≡ preferred l.list l.walk.place;
  next : l.next ≡ preferred l.list (l.walk.place + 1);
  low : l.fn.from.place ≤ l.walk.place;
  ahead : (place : ℕ) × (l.walk.place ≤ place) × (place < l.list.size) × (get_or l.taken (preferred l.list place) true ≡ false);
  first : (place : ℕ) → l.fn.from.place ≤ place → place < l.walk.place → get_or l.taken (preferred l.list place) true ≡ true;
}

abbrev pub decreases-loop-walk : goal.decreases-loop-walk
decreases-loop-walk l = l.list.size - l.walk.place
