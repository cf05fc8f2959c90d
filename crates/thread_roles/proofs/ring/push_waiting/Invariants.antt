use Rattle.std.proofs.Common.{◌≡◌}
use Rattle.rtrb.specs.Ring.{sent}
use Rattle.thread_roles.proofs.ring.push_waiting.Given as goal

abbrev pub invariant-loop : goal.invariant-loop
invariant-loop g l = (sent l.ring ≡ sent l.initial.ring) × (l.item ≡ l.initial.item)
