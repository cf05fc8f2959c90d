use Rattle.thread_roles.proofs.working.serve_all.Goals as goal

pub loop-preserved : goal.loop-preserved
loop-preserved g c = c.in_ok-serve_gated.ensures.work c.loop.invariant
