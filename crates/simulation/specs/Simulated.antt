-- What the run of a scenario over a capture results in.
use Rattle.std.specs.Prelude.{◌≡◌, ◌⊎◌, ℕ, List, length, map, drop, reverse, Option, Some, None, Ok, Err}
use Rattle.std.specs.Io.KnownBytes.{Appends}
use Rattle.ip_headers.specs.declared.Link.{Link}
use Rattle.pcap_file.specs.declared.format.Head.{Head}
use Rattle.pcap_file.specs.declared.format.InputEnd.{InputEnd}
use Rattle.pcap_file.specs.Device.{Tape, Unfailed, WithinCalls, PutRefused}
use Rattle.pcap_file.specs.Format.{Record, head_answer, written_head}
use Rattle.pcap_file.specs.Capture.{HeadRead, HeadCause}
use Rattle.pcap_file.specs.Text.{Reads, ending_of}
use Rattle.spreader.specs.Choices.{Choice}
use Rattle.cluster_core.specs.Cluster.{Cluster}
use Rattle.event_trace.specs.Trace.{Trace}
use Rattle.event_trace.specs.Steps.{world_of, run, start}
use Rattle.timed_steps.specs.Timed.{counted}
use Rattle.simulation.specs.declared.fault.SimulationFault.{SimulationFault}
use Rattle.simulation.specs.declared.fault.SimulationFault.TheVariants.{Capture, Write, Memory}
use Rattle.simulation.specs.Plans.{Planned}
use Rattle.simulation.specs.Intake.{StopsAt}
use Rattle.simulation.specs.Sent.{Traffic, Sending, time_of, packets_of, sent, capture_text, WroteUntil}

-- an input that is known has this header, these records and this ending
abbrev pub InputIs : Option (List ℕ) → Head → List Record → InputEnd → Type 0
InputIs None head records ending = Unit {0}
InputIs (Some text) head records ending = (head_answer text ≡ Ok head) × Reads head 0 (drop 24 text) records (ending_of ending)

-- the trace over these records of the steps by count that the plan's are by the records' times
unfoldable pub trace_of : Cluster → Choice → Planned → Link → List Record → Trace
trace_of cluster choice plan link records =
    run (world_of cluster choice (packets_of link plan.check records)) (counted (map time_of records) plan.steps) (start (length plan.nodes))

abbrev pub traffic_of : Planned → Link → List Record → Traffic
traffic_of plan link records = record { nodes = plan.nodes; link = link; check = plan.check; records = records }

-- what it sends, in order
abbrev pub sendings : Cluster → Choice → Planned → Link → List Record → List Sending
sendings cluster choice plan link records = sent (traffic_of plan link records) (reverse (trace_of cluster choice plan link records).past)

-- The trace is that of the input's records, of which there are so many, up to how the input ends. The output got the
-- capture of all that it sends; neither device failed.
pub record Simulated (cluster : Cluster) (choice : Choice) (plan : Planned) (input input' output output' : Tape) (trace : Trace) (packets : ℕ)
    (ending : InputEnd) : Type 0 where
  pub head : Head
  pub records : List Record
  pub input_is : InputIs input.bytes head records ending
  pub input_unfailed : Unfailed input input'
  pub trace_is : trace ≡ trace_of cluster choice plan head.link records
  pub count : packets ≡ length records
  pub output_is : Appends output.bytes output'.bytes (capture_text (sendings cluster choice plan head.link records))
  pub output_unfailed : Unfailed output output'

-- the output got the header of a capture
abbrev pub Begun : Tape → Tape → Type 0
Begun output begun = Appends output.bytes begun.bytes written_head × Unfailed output begun

-- What the output got of the capture of these records where a run stopped by this fault. It is a prefix of the header, or
-- the header and a prefix of the records.
abbrev pub CaptureUntil : SimulationFault → Tape → Tape → List Sending → Type 0
CaptureUntil fault output output' all =
    ((fault ≡ Write) × PutRefused written_head output output') ⊎ ((begun : Tape) × Begun output begun × WroteUntil fault begun output' all)

-- After its header the input had these records when the run stopped by this fault. The output got a prefix of the capture
-- over these: cut between records, unless writing failed.
pub record StopsShort (cluster : Cluster) (choice : Choice) (plan : Planned) (input input' output output' : Tape) (fault : SimulationFault) : Type 0 where
  pub head : Head
  pub text : Tape
  pub header : HeadRead input.bytes text.bytes (Ok head)
  pub unfailed : Unfailed input text
  pub within : WithinCalls 24 input text
  pub records : List Record
  pub stops : StopsAt head text input' records fault
  pub wrote : CaptureUntil fault output output' (sendings cluster choice plan head.link records)

-- the input's header was refused
abbrev pub HeaderFails : SimulationFault → Tape → Tape → Type 0
HeaderFails (Capture fault) input input' = HeadRead input.bytes input'.bytes (Err fault) × HeadCause (Err fault) input input'
HeaderFails Write input input' = ⊥
HeaderFails Memory input input' = ⊥

-- Memory was refused before the devices were called; or the input's header was refused, and the output is as it was; or the
-- run stopped short.
abbrev pub Stopped : Cluster → Choice → Planned → Tape → Tape → Tape → Tape → SimulationFault → Type 0
Stopped cluster choice plan input input' output output' fault =
    ((fault ≡ Memory) × (input' ≡ input) × (output' ≡ output))
    ⊎ ((HeaderFails fault input input' × (output' ≡ output)) ⊎ StopsShort cluster choice plan input input' output output' fault)

-- a fault that isn't the capture's
abbrev pub IsOfRun : SimulationFault → Type 0
IsOfRun (Capture fault) = ⊥
IsOfRun Write = Unit {0}
IsOfRun Memory = Unit {0}
