-- The fault of a capture whose record is refused.
use Rattle.std.proofs.Common.{inr, Ok}
use Rattle.pcap_file.specs.declared.format.Head.{Head}
use Rattle.pcap_file.specs.declared.format.PcapFault.{PcapFault}
use Rattle.pcap_file.specs.declared.format.PcapFault.TheVariants.{ShortHeader, BadMagic, BadVersion, BadLink, TooLong, Read, Write, Memory}
use Rattle.pcap_file.specs.Capture.{HeadRead}
use Rattle.pcap_file.specs.Device.{Tape, Unfailed}
use Rattle.pcap_file.specs.Text.{AllRefused}
use Rattle.command_faults.specs.Faults.{capture_fault}
use Rattle.scenario_sketch.specs.Sketch.{RecordFails, SketchFails}

record_refused : (input left : Tape) (fault : PcapFault) → RecordFails fault input left → SketchFails (capture_fault fault) input left
record_refused input left ShortHeader h = inr h
record_refused input left BadMagic h = inr h
record_refused input left BadVersion h = inr h
record_refused input left BadLink h = inr h
record_refused input left TooLong h = inr h
record_refused input left Read h = inr h
record_refused input left Write h = inr h
record_refused input left Memory h = _

pub record_fails : (head : Head) (input at left : Tape) (fault : PcapFault) → HeadRead input.bytes at.bytes (Ok head) → Unfailed input at → AllRefused head at left fault
    → SketchFails (capture_fault fault) input left
record_fails head input at left fault header unfailed refused =
    record_refused input left fault (record { head = head; at = at; header = header; unfailed = unfailed; refused = refused })
