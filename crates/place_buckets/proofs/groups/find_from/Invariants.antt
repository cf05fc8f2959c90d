use Rattle.std.proofs.Common.{◌≡◌, ◌<◌, ◌≤◌, ℕ, get_or, false}
use Rattle.place_buckets.proofs.groups.find_from.Given as goal

abbrev pub invariant-loop-lane : goal.invariant-loop-lane
invariant-loop-lane g l = (i : ℕ) → l.from ≤ i → i < l.lane → get_or l.group.tags i 0 ≡ l.tag → 0 < get_or l.group.places i 0 → goal.F-post g l.is_sought (get_or l.group.places i 0) false
