use Rattle.node_threads.proofs.Telling.{err_exit}
use Rattle.node_threads.proofs.cluster.run_each.Goals as goal

pub returns-clause-runs : goal.returns-clause-runs
returns-clause-runs g c = c.in_ok-run.ensures.runs

pub returns-clause-paced : goal.returns-clause-paced
returns-clause-paced g c = c.in_ok-run.ensures.unmarked

pub returns-clause-stats : goal.returns-clause-stats
returns-clause-stats g c = c.in_ok-run.ensures.counts

pub returns-in_err-run-clause-told : goal.returns-in_err-run-clause-told
returns-in_err-run-clause-told g c = err_exit _ c.from_residual.result c.in_err-run.field-0.0 c.from_residual.ensures.1 c.in_err-run.ensures
