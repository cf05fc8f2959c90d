use Rattle.std.proofs.Common.{◌≡◌, ◌-◌, ◌≤◌, true, length}
use Rattle.std.specs.Fn.{FnReturnsAt}
use Rattle.pcap_file.specs.Device.{Unfailed, CallsAtMost}
use Rattle.pcap_file.specs.Format.{max_records}
use Rattle.pcap_file.specs.Text.{Passed, calls_for}
use Rattle.run_records.specs.Firsts.{IsBounded}
use Rattle.run_records.proofs.reading.read_records.Given as goal

abbrev pub invariant-loop-records : goal.invariant-loop-records
invariant-loop-records g l = record {
  bounded : IsBounded (λ rs. FnReturnsAt g.F.Fn l.enough rs true) l.limit l.records;
  few : length l.records.all ≤ max_records;
  given : l.given ≡ length l.records.all;
  passed : Passed l.head (g.I.Source.tape l.initial.input).bytes l.records.all (g.I.Source.tape l.input).bytes;
  unfailed : Unfailed (g.I.Source.tape l.initial.input) (g.I.Source.tape l.input);
  called : CallsAtMost (calls_for l.records.all) (g.I.Source.tape l.initial.input) (g.I.Source.tape l.input);
}

abbrev pub decreases-loop-records : goal.decreases-loop-records
decreases-loop-records g l = max_records - l.given
