use Rattle.std.proofs.Common.{map, take}
use Rattle.std.specs.List.{flat_map}
use Rattle.simulation.specs.Sent.{Wrote}
use Rattle.thread_records.specs.Lean.{send_of}
use Rattle.run_records.specs.Traffic.{traffic_by}
use Rattle.run_records.specs.Sends.{sent_of}
use Rattle.run_records.proofs.sender.Sender.send_lives.Given as goal

abbrev pub invariant-loop-life : goal.invariant-loop-life
invariant-loop-life g l = Wrote (g.O.Sink.tape l.initial.output) (g.O.Sink.tape l.output) (flat_map (λ v. sent_of (traffic_by l.self) (map (λ n. send_of l.node.outcomes.items n) v.items)) (take l.life-index l.lives))
