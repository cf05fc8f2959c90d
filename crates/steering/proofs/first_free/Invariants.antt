use Rattle.std.proofs.Common.{◌≡◌, ◌+◌, ◌-◌}
use Rattle.steering.specs.Steering.{ring_from, but, others, first_taker}
use Rattle.steering.proofs.first_free.Given as goal

-- the first of those that are left is the first of all
abbrev pub invariant-loop-tried : goal.invariant-loop-tried
invariant-loop-tried l = first_taker l.refused (but l.home (ring_from l.workers (l.first + l.tried) (l.workers - l.tried))) ≡ first_taker l.refused (others l.workers l.home l.first)
