-- A run over a capture on its way.
use Rattle.std.specs.Prelude.{◌≡◌, List, [], ◌∷◌, map, drop, reverse}
use Rattle.ip_headers.specs.declared.Link.{Link}
use Rattle.pcap_file.specs.declared.format.Head.{Head}
use Rattle.pcap_file.specs.Device.{Tape}
use Rattle.pcap_file.specs.Format.{Record}
use Rattle.spreader.specs.Choices.{Choice}
use Rattle.event_trace.specs.declared.steps.ScenarioStep.{ScenarioStep}
use Rattle.timed_steps.specs.declared.TimedStep.{TimedStep}
use Rattle.timed_steps.specs.Timed.{counted_from}
use Rattle.cluster_node.specs.declared.events.LogEntry.{LogEntry}
use Rattle.cluster_core.specs.Cluster.{Cluster}
use Rattle.event_trace.specs.Trace.{Trace}
use Rattle.event_trace.specs.Steps.{world_of, run}
use Rattle.simulation.specs.Plans.{Planned}
use Rattle.simulation.specs.declared.fault.SimulationFault.{SimulationFault}
use Rattle.simulation.specs.Intake.{StopsAt, first_time}
use Rattle.simulation.specs.Sent.{time_of, packets_of, sent, Wrote, WroteUntil}
use Rattle.simulation.specs.Simulated.{trace_of, traffic_of, sendings}

-- a record with these events after it, the oldest of them first
abbrev pub onto : List LogEntry → List LogEntry → List LogEntry
onto past [] = past
onto past (s ∷ ss) = onto (s ∷ past) ss

-- the steps by count that steps are from here, where all the records are these
abbrev pub counted_here : List Record → List TimedStep → Trace → List ScenarioStep
counted_here all ss trace = counted_from (first_time all) (drop trace.read (map time_of all)) ss

-- to run the steps that are left from here is to run the plan
abbrev pub Left : Cluster → Choice → Planned → Link → List Record → List TimedStep → Trace → Type 0
Left cluster choice plan link all ss trace = run (world_of cluster choice (packets_of link plan.check all)) (counted_here all ss trace) trace
    ≡ trace_of cluster choice plan link all

-- after the header the output got what was sent so far
abbrev pub SentSoFar : Planned → Link → List Record → Trace → Tape → Tape → Type 0
SentSoFar plan link all trace begun out = Wrote begun out (sent (traffic_of plan link all) (reverse trace.past))

-- a run stopped by this fault after some records, and the output got a prefix of what is sent of them
pub record Shortened (cluster : Cluster) (choice : Choice) (plan : Planned) (head : Head) (text left begun out : Tape) (fault : SimulationFault) : Type 0 where
  pub records : List Record
  pub stops : StopsAt head text left records fault
  pub wrote : WroteUntil fault begun out (sendings cluster choice plan head.link records)
