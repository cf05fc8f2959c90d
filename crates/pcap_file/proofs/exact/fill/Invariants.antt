use Rattle.std.proofs.Common.{◌≡◌, ◌≤◌, ◌-◌, length, take}
use Rattle.std.specs.Io.KnownBytes.{Consumes}
use Rattle.pcap_file.specs.Device.{Called, more_often}
use Rattle.pcap_file.proofs.exact.fill.Given as goal

abbrev pub invariant-loop : goal.invariant-loop
invariant-loop g l = record {
  len : length l.buf ≡ length l.initial.buf;
  at_most : l.at ≤ length l.buf;
  bytes : Consumes (g.S.Source.tape l.initial.source).bytes (g.S.Source.tape l.source).bytes (take l.at l.buf);
  failures : (g.S.Source.tape l.source).failures ≡ (g.S.Source.tape l.initial.source).failures;
  worn : more_often (l.counter - l.at) (g.S.Source.tape l.initial.source).interruptions ≤ (g.S.Source.tape l.source).interruptions;
  called : Called l.counter (g.S.Source.tape l.initial.source).calls (g.S.Source.tape l.source).calls;
}
