use Rattle.std.proofs.Common.{◌≡◌}
use Rattle.event_trace.specs.Steps.{below}
use Rattle.event_trace.proofs.play.all_live.Given as goal

abbrev pub invariant-loop-node : goal.invariant-loop-node
invariant-loop-node l = l.live.items ≡ below l.node
