use Rattle.connection_changes.proofs.Kept.{changed_put}
use Rattle.connection_changes.proofs.changed.ChangedFlows.put.Goals as goal

pub returns : goal.returns
returns c xs was = changed_put xs c.args.flow.now _ c.args.self.now _ was c.in-Ok.ensures.updates.0 c.in-Ok.ensures.added c.in-Ok.ensures.len
