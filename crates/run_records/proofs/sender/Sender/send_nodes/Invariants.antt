use Rattle.std.proofs.Common.{take}
use Rattle.std.specs.List.{flat_map}
use Rattle.simulation.specs.Sent.{Wrote}
use Rattle.run_records.specs.Traffic.{traffic_by}
use Rattle.run_records.specs.Sends.{sent_by_lives}
use Rattle.run_records.proofs.sender.Sender.send_nodes.Given as goal

abbrev pub invariant-loop-node : goal.invariant-loop-node
invariant-loop-node g l = Wrote (g.O.Sink.tape l.initial.output) (g.O.Sink.tape l.output) (flat_map (λ node. sent_by_lives (traffic_by l.self) node.sent.items) (take l.node-index l.nodes))
