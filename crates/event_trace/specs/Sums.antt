-- What is true of every trace that a scenario's steps lead to.
use Rattle.std.specs.Prelude.{◌≡◌, ◌≤◌, ◌<◌, ℕ, ◌+◌, List, [], ◌∷◌, length, Option, slice_get}
use Rattle.cluster_node.specs.declared.packets.Packet.{Packet}
use Rattle.cluster_node.specs.declared.events.Event.{Event}
use Rattle.cluster_node.specs.declared.events.Event.TheVariants.{Install, Arrive, Serve, Restart}
use Rattle.cluster_node.specs.declared.events.LogEntry.{LogEntry}
use Rattle.cluster_node.specs.Records.{Judged}
use Rattle.event_trace.specs.declared.steps.ScenarioStep.{ScenarioStep}
use Rattle.event_trace.specs.declared.steps.ScenarioStep.TheVariants as steps
use Rattle.event_trace.specs.Trace.{Trace}
use Rattle.event_trace.specs.Steps.{World, run, start}

-- how many arrivals an event is
abbrev pub arrives : Event → ℕ
arrives (Install n v) = 0
arrives (Arrive n k marks) = 1
arrives (Serve n w v r) = 0
arrives (Restart n) = 0

abbrev pub arrivals : List LogEntry → ℕ
arrivals [] = 0
arrivals (s ∷ past) = arrives s.event + arrivals past

-- an arrival is of a record that was read before, with its packet
abbrev pub IsOfRecord : List Packet → ℕ → Event → Option Packet → Type 0
IsOfRecord packets read (Install n v) p = Unit {0}
IsOfRecord packets read (Arrive n k marks) p = (k < read) × (p ≡ slice_get packets k)
IsOfRecord packets read (Serve n w v r) p = Unit {0}
IsOfRecord packets read (Restart n) p = Unit {0}

abbrev pub AreOfRecords : List Packet → ℕ → List LogEntry → Type 0
AreOfRecords packets read [] = Unit {0}
AreOfRecords packets read (s ∷ past) = IsOfRecord packets read s.event s.packet × AreOfRecords packets read past

-- how many steps deliver a record again
abbrev pub again_by : ScenarioStep → ℕ
again_by (steps.Install n v) = 0
again_by (steps.Live ns) = 0
again_by (steps.Take k) = 0
again_by (steps.Lose k) = 0
again_by (steps.Again k) = 1
again_by (steps.Full n m) = 0
again_by (steps.Hold n) = 0
again_by (steps.Drain n) = 0
again_by (steps.Restart n) = 0
again_by (steps.Stop n) = 0

abbrev pub agains : List ScenarioStep → ℕ
agains [] = 0
agains (s ∷ ss) = again_by s + agains ss

-- the counts of a trace, in which so many steps were repeats
pub record AddsUp (w : World) (repeats : ℕ) (c : Trace) : Type 0 where
  -- no more records were read than there are: what is left is the rest
  pub few : c.read ≤ length w.packets
  -- what was handed to the spreader found no live node, or arrived
  pub handed : c.nth ≡ c.unrouted + arrivals c.past
  -- a record that was read was lost or handed to the spreader, and a repeat was handed to it or skipped
  pub counted : (c.nth + c.lost) + c.skipped ≡ c.read + repeats
  -- each arrival is of a record that was read, with that record's packet
  pub records : AreOfRecords w.packets c.read c.past

-- every trace of steps is judged, and its counts add up
abbrev pub TracesAddUp : Type 0
TracesAddUp = (w : World) (ss : List ScenarioStep) (nodes : ℕ) → Judged w.cluster.judge (run w ss (start nodes)).past
    × AddsUp w (agains ss) (run w ss (start nodes))
