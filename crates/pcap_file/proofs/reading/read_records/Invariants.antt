use Rattle.std.proofs.Common.{◌≡◌, ◌-◌, ◌≤◌, length, map}
use Rattle.pcap_file.specs.Device.{Unfailed, CallsAtMost}
use Rattle.pcap_file.specs.Format.{packet, max_records}
use Rattle.pcap_file.specs.Text.{Passed, calls_for}
use Rattle.pcap_file.proofs.reading.read_records.Given as goal

abbrev pub invariant-loop-frame : goal.invariant-loop-frame
invariant-loop-frame g l = record {
  few : length (map packet l.frames.items) ≤ max_records;
  given : l.given ≡ length (map packet l.frames.items);
  records : Passed l.head (g.S.Source.tape l.initial.source).bytes (map packet l.frames.items) (g.S.Source.tape l.source).bytes;
  unfailed : Unfailed (g.S.Source.tape l.initial.source) (g.S.Source.tape l.source);
  called : CallsAtMost (calls_for (map packet l.frames.items)) (g.S.Source.tape l.initial.source) (g.S.Source.tape l.source);
}

abbrev pub decreases-loop-frame : goal.decreases-loop-frame
decreases-loop-frame g l = max_records - l.given
