use Rattle.std.proofs.Common.{take}
use Rattle.simulation.specs.Sent.{Wrote}
use Rattle.run_records.specs.Traffic.{sent_by_numbers}
use Rattle.run_records.proofs.wrapping.NodeSender.send_numbers.Given as goal

abbrev pub invariant-loop-number : goal.invariant-loop-number
invariant-loop-number g l = Wrote (g.O.Sink.tape l.initial.output) (g.O.Sink.tape l.output) (sent_by_numbers l.self (take l.number-index l.numbers))
