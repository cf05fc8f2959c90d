use Rattle.std.proofs.Common.{◌≡◌}
use Rattle.thread_roles.proofs.working.serve_one.Given as goal

abbrev pub invariant-loop : goal.invariant-loop
invariant-loop g l = l.worker ≡ l.initial.worker
