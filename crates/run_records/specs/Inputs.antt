-- A capture that is read whole.
use Rattle.std.specs.Prelude.{◌≡◌, ◌⊎◌, List, Ok}
use Rattle.pcap_file.specs.declared.format.Head.{Head}
use Rattle.pcap_file.specs.declared.format.InputEnd.{InputEnd}
use Rattle.pcap_file.specs.declared.format.PcapFault.{PcapFault}
use Rattle.pcap_file.specs.Device.{Tape, Unfailed, WithinCalls}
use Rattle.pcap_file.specs.Format.{Record}
use Rattle.pcap_file.specs.Capture.{HeadRead}
use Rattle.pcap_file.specs.Text.{AllRefused}
use Rattle.simulation.specs.declared.fault.SimulationFault.{SimulationFault}
use Rattle.simulation.specs.declared.fault.SimulationFault.TheVariants.{Capture}
use Rattle.simulation.specs.Simulated.{InputIs, HeaderFails}

-- the input was read to its end: it has this header, these records and this ending, and it didn't fail
pub record IsReadWhole (input input' : Tape) (head : Head) (records : List Record) (ending : InputEnd) : Type 0 where
  pub input_is : InputIs input.bytes head records ending
  pub unfailed : Unfailed input input'

-- the whole input was read
pub record WholeWasRead (input input' : Tape) : Type 0 where
  pub head : Head
  pub records : List Record
  pub ending : InputEnd
  pub read : IsReadWhole input input' head records ending

-- after a header that was accepted, the input's records were refused
pub record RecordsFail (fault : SimulationFault) (input input' : Tape) : Type 0 where
  pub head : Head
  pub text : Tape
  pub header : HeadRead input.bytes text.bytes (Ok head)
  pub unfailed : Unfailed input text
  pub within : WithinCalls 24 input text
  pub why : PcapFault
  pub named : fault ≡ Capture why
  pub refused : AllRefused head text input' why

-- the input's header or its records were refused
abbrev pub ReadingFails : SimulationFault → Tape → Tape → Type 0
ReadingFails fault input input' = HeaderFails fault input input' ⊎ RecordsFail fault input input'
