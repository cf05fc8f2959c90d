use Rattle.std.proofs.Common.{arith}
use Rattle.run_records.specs.Traffic.{traffic_by}
use Rattle.run_records.specs.Sends.{sent_by_lives}
use Rattle.simulation.proofs.Exits.{at_exit}
use Rattle.run_records.proofs.Walks.{wrote_more, cut_at, wrote_all}
use Rattle.run_records.proofs.sender.Sender.send_nodes.Goals as goal

pub loop-node-preserved : goal.loop-node-preserved
loop-node-preserved g c =
    let t = traffic_by c.args.self.now in
    wrote_more (λ node. sent_by_lives t node.sent.items) c.args.nodes.now c.loop-node.node-index c.node-item.result (omega arith) c.node-item.is _ _ _ c.loop-node.invariant c.in_ok-send_lives.ensures.ok

pub returns-in_err-send_lives-clause-cut : goal.returns-in_err-send_lives-clause-cut
returns-in_err-send_lives-clause-cut g c =
    let t = traffic_by c.args.self.now in
    at_exit c.from_residual.result c.in_err-send_lives.field-0.0 _ c.from_residual.ensures.1
    (cut_at (λ node. sent_by_lives t node.sent.items) c.args.nodes.now c.loop-node.node-index c.node-item.result (omega arith) c.node-item.is c.in_err-send_lives.field-0.0 _ _ _ c.loop-node.invariant c.in_err-send_lives.ensures.cut)

pub returns-clause-ok : goal.returns-clause-ok
returns-clause-ok g c = wrote_all (λ node. sent_by_lives (traffic_by c.args.self.now) node.sent.items) c.args.nodes.now c.loop-node.node-index _ _ (omega arith) c.loop-node.invariant
