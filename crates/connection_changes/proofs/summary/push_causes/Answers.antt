use Rattle.connection_changes.proofs.Told.{cause_more}
use Rattle.std.proofs.Common.{rules}
use Rattle.connection_changes.proofs.summary.push_causes.Goals as goal

pub loop-cause-preserved : goal.loop-cause-preserved
loop-cause-preserved c = cause_more c.args.made.now c.loop-cause.cause-index _ c.count_of.result _ _ _ c.loop-cause-test.true (search rules) c.in_ok-push_cause.ensures c.count_of.ensures c.loop-cause.invariant
