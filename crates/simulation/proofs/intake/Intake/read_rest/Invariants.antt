use Rattle.std.proofs.Common.{◌≡◌, ◌-◌, ◌≤◌, List}
use Rattle.pcap_file.specs.Device.{Tape}
use Rattle.pcap_file.specs.Format.{Record, max_records}
use Rattle.simulation.specs.Intake.{Seen}
use Rattle.simulation.proofs.Intakes.{Onward}
use Rattle.simulation.proofs.intake.Intake.read_rest.Given as goal

abbrev pub invariant-loop : goal.invariant-loop
invariant-loop g l = record {
  head : l.self.head ≡ l.initial.self.head;
  few : l.initial.self.given ≤ l.self.given;
  onward : (text : Tape) (seen : List Record) → Seen text seen (g.I.Source.tape l.initial.input) l.initial.self → Onward text seen (g.I.Source.tape l.input) l.initial.self l.self;
}

abbrev pub decreases-loop : goal.decreases-loop
decreases-loop g l = max_records - l.self.given
