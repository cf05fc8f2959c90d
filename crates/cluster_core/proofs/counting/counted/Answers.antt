use Rattle.cluster_core.proofs.Bumps.{leads_more}
use Rattle.cluster_core.proofs.counting.counted.Goals as goal

pub loop-outcome-preserved : goal.loop-outcome-preserved
loop-outcome-preserved c = leads_more c.args.outcomes.now c.loop-outcome.outcome-index c.outcome-item.result c.loop-outcome.counter.kinds c.count.new.self.kinds c.loop-outcome.counter.received c.count.new.self.received c.loop-outcome.counter.lost c.count.new.self.lost
    c.loop-outcome-test.true c.outcome-item.is c.count.ensures c.loop-outcome.invariant
