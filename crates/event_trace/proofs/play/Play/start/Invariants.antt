use Rattle.std.proofs.Common.{◌≡◌, replicate, false}
use Rattle.event_trace.specs.Steps.{none_marked}
use Rattle.event_trace.proofs.play.Play.start.Given as goal

abbrev pub invariant-loop : goal.invariant-loop
invariant-loop g l = (l.marks.items ≡ replicate l.counter none_marked) × (l.held.items ≡ replicate l.counter false)
