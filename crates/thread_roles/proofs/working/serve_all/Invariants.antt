use Rattle.thread_roles.specs.Counts.{IsWork}
use Rattle.thread_roles.proofs.working.serve_all.Given as goal

abbrev pub invariant-loop : goal.invariant-loop
invariant-loop g l = IsWork l.run.record l.run.tally.lost l.run.tally.shares
