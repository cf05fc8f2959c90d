use Rattle.std.proofs.Common.{◌≡◌, ◌≤◌, ◌-◌, length, take}
use Rattle.std.specs.Io.KnownBytes.{Appends}
use Rattle.pcap_file.specs.Device.{Called, more_often}
use Rattle.pcap_file.proofs.exact.put_all.Given as goal

abbrev pub invariant-loop : goal.invariant-loop
invariant-loop g l = record {
  at_most : l.at ≤ length l.bytes;
  bytes : Appends (g.S.Sink.tape l.initial.sink).bytes (g.S.Sink.tape l.sink).bytes (take l.at l.bytes);
  failures : (g.S.Sink.tape l.sink).failures ≡ (g.S.Sink.tape l.initial.sink).failures;
  worn : more_often (l.counter - l.at) (g.S.Sink.tape l.initial.sink).interruptions ≤ (g.S.Sink.tape l.sink).interruptions;
  called : Called l.counter (g.S.Sink.tape l.initial.sink).calls (g.S.Sink.tape l.sink).calls;
}
