use Rattle.std.proofs.Common.{drop}
use Rattle.cluster_core.specs.PrivateCounting.{Leads}
use Rattle.cluster_core.proofs.counting.counted.Given as goal

-- with those that are left, what was counted makes all
abbrev pub invariant-loop-outcome : goal.invariant-loop-outcome
invariant-loop-outcome l = Leads (drop l.outcome-index l.outcomes) l.outcomes l.counter.kinds l.counter.received l.counter.lost
