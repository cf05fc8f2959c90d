use Rattle.std.proofs.Common.{◌≤◌, ◌-◌, length, take}
use Rattle.simulation.specs.Sent.{Wrote}
use Rattle.run_records.specs.Traffic.{sent_by_numbers}
use Rattle.run_records.proofs.wrapping.NodeSender.send_life.Given as goal

abbrev pub decreases-loop-from : goal.decreases-loop-from
decreases-loop-from g l = length l.life - l.from

abbrev pub invariant-loop-from : goal.invariant-loop-from
invariant-loop-from g l = (l.from ≤ length l.life) × Wrote (g.O.Sink.tape l.initial.output) (g.O.Sink.tape l.output) (sent_by_numbers l.self (take l.from l.life))
