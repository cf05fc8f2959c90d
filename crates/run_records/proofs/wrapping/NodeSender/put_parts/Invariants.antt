use Rattle.std.proofs.Common.{◌≤◌, length, take}
use Rattle.std.specs.Prelude.{All}
use Rattle.simulation.specs.Sent.{Wrote}
use Rattle.run_records.specs.Traffic.{sent_by_numbers, IsWrapped}
use Rattle.run_records.proofs.wrapping.NodeSender.put_parts.Given as goal

abbrev pub invariant-loop-part : goal.invariant-loop-part
invariant-loop-part g l =
    (l.from ≤ length l.numbers) × Wrote (g.O.Sink.tape l.initial.output) (g.O.Sink.tape l.output) (sent_by_numbers l.self (take l.from l.numbers))
    × All (λ w. IsWrapped l.self l.numbers w) l.part-iterator.rest.items
