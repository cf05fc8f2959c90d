-- What one node's part of a run over a capture results in, told by the whole run.
use Rattle.std.specs.Prelude.{◌≡◌, ◌⊎◌, ℕ, List, length, reverse, Option, Ok}
use Rattle.std.specs.Io.KnownBytes.{Appends}
use Rattle.ip_headers.specs.declared.Link.{Link}
use Rattle.pcap_file.specs.declared.format.Head.{Head}
use Rattle.pcap_file.specs.declared.format.InputEnd.{InputEnd}
use Rattle.pcap_file.specs.Device.{Tape, Unfailed, WithinCalls}
use Rattle.pcap_file.specs.Format.{Record}
use Rattle.pcap_file.specs.Capture.{HeadRead}
use Rattle.spreader.specs.Choices.{Choice}
use Rattle.cluster_core.specs.Cluster.{Cluster}
use Rattle.event_trace.specs.Trace.{Trace}
use Rattle.simulation.specs.declared.fault.SimulationFault.{SimulationFault}
use Rattle.simulation.specs.declared.fault.SimulationFault.TheVariants.{Memory}
use Rattle.simulation.specs.Plans.{Planned}
use Rattle.simulation.specs.Intake.{StopsAt}
use Rattle.simulation.specs.Sent.{Sending, sent, capture_text}
use Rattle.simulation.specs.Simulated.{InputIs, trace_of, traffic_of, CaptureUntil, HeaderFails}
use Rattle.node_part.specs.Parts.{of_part}

-- what the whole run sends at the part's events, in order
abbrev pub part_sendings : Option ℕ → Cluster → Choice → Planned → Link → List Record → List Sending
part_sendings only cluster choice plan link records =
    sent (traffic_of plan link records) (reverse (of_part only (trace_of cluster choice plan link records).past))

-- The trace is that of the whole run over the input's records, of which there are so many, up to how the input ends. The
-- output got the capture of all that it sends at the part's events; neither device failed.
pub record PartSimulated (only : Option ℕ) (cluster : Cluster) (choice : Choice) (plan : Planned) (input input' output output' : Tape)
    (trace : Trace) (packets : ℕ) (ending : InputEnd) : Type 0 where
  pub head : Head
  pub records : List Record
  pub input_is : InputIs input.bytes head records ending
  pub input_unfailed : Unfailed input input'
  pub trace_is : trace ≡ trace_of cluster choice plan head.link records
  pub count : packets ≡ length records
  pub output_is : Appends output.bytes output'.bytes (capture_text (part_sendings only cluster choice plan head.link records))
  pub output_unfailed : Unfailed output output'

-- After its header the input had these records when the run stopped by this fault. The output got a prefix of the capture of
-- what the whole run sends over these at the part's events: cut between records, unless writing failed.
pub record PartStopsShort (only : Option ℕ) (cluster : Cluster) (choice : Choice) (plan : Planned) (input input' output output' : Tape)
    (fault : SimulationFault) : Type 0 where
  pub head : Head
  pub text : Tape
  pub header : HeadRead input.bytes text.bytes (Ok head)
  pub unfailed : Unfailed input text
  pub within : WithinCalls 24 input text
  pub records : List Record
  pub stops : StopsAt head text input' records fault
  pub wrote : CaptureUntil fault output output' (part_sendings only cluster choice plan head.link records)

-- Memory was refused before the devices were called; or the input's header was refused, and the output is as it was; or the
-- run stopped short.
abbrev pub PartStopped : Option ℕ → Cluster → Choice → Planned → Tape → Tape → Tape → Tape → SimulationFault → Type 0
PartStopped only cluster choice plan input input' output output' fault =
    ((fault ≡ Memory) × (input' ≡ input) × (output' ≡ output))
    ⊎ ((HeaderFails fault input input' × (output' ≡ output)) ⊎ PartStopsShort only cluster choice plan input input' output output' fault)
