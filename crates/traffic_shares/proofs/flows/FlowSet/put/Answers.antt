use Rattle.traffic_shares.proofs.Kept.{flow_put}
use Rattle.traffic_shares.proofs.flows.FlowSet.put.Goals as goal

pub returns : goal.returns
returns c xs was = flow_put xs c.args.flow.now _ c.args.self.now _ was c.in-Ok.ensures.updates.0 c.in-Ok.ensures.added c.in-Ok.ensures.len
