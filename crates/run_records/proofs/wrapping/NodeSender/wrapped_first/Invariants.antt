use Rattle.std.proofs.Common.{take, Some}
use Rattle.pcap_file.specs.Host.{taped}
use Rattle.simulation.specs.Sent.{Wrote}
use Rattle.run_records.specs.Traffic.{sent_by_numbers}
use Rattle.run_records.proofs.wrapping.NodeSender.wrapped_first.Given as goal

abbrev pub invariant-loop-at : goal.invariant-loop-at
invariant-loop-at l = Wrote (taped (Some l.initial.texts.writer.items) l.initial.texts.counts) (taped (Some l.texts.writer.items) l.texts.counts) (sent_by_numbers l.self (take l.at l.numbers))
