use Rattle.std.proofs.Common.{◌≡◌, ◌+◌, ◌≤◌, ◌<◌}
use Rattle.steering.specs.Steering.{ring_from, but}
use Rattle.steering.proofs.Steerer.next_other.Given as goal

-- what is left to try is as it was; only homes were passed over
abbrev pub invariant-loop : goal.invariant-loop
invariant-loop l = record {
  some : 0 < l.self-inside.workers;
  limit : l.self-inside.workers ≤ 16;
  below : l.self-inside.cursor < l.self-inside.workers;
  short : l.self-inside.next + l.self-inside.left ≤ 32;
  counts : l.counter + l.self-inside.left ≡ l.end;
  workers : l.self-inside.workers ≡ l.fn.self.workers;
  cursor : l.self-inside.cursor ≡ l.fn.self.cursor;
  at_home : l.self-inside.at_home ≡ l.fn.self.at_home;
  left : but l.self-inside.home (ring_from l.self-inside.workers l.self-inside.next l.self-inside.left) ≡ l.fn.self.left;
}
