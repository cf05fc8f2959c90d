-- What is reported of a packet that was handed to the spreader.
use Rattle.std.specs.Prelude.{ℕ, false, List, [], ◌∷◌, Option, Some, None, if◌then◌else◌}
use Rattle.cluster_node.specs.declared.packets.Packet.{Packet}
use Rattle.cluster_node.specs.declared.events.Event.TheVariants.{Arrive, Serve}
use Rattle.cluster_node.specs.declared.events.LogEntry.{LogEntry}
use Rattle.cluster_node.specs.declared.outcomes.Outcome.{Outcome}
use Rattle.cluster_node.specs.declared.outcomes.Outcome.TheVariants.{Placed}
use Rattle.cluster_node.specs.declared.outcomes.Passed.{Passed}
use Rattle.cluster_node.specs.declared.outcomes.Passed.TheVariants.{Unplaced, Through}
use Rattle.event_trace.specs.declared.delivery.Delivery.{Delivery}
use Rattle.event_trace.specs.Trace.{Trace}
use Rattle.event_trace.specs.Steps.{with_passed}

-- the outcome of the packet's arrival
abbrev pub came_to : Passed → Outcome
came_to (Unplaced o) = o
came_to (Through w floor o) = Placed w floor

-- its arrival
abbrev pub arrival_of : Packet → Delivery → LogEntry
arrival_of p d = record { event = Arrive d.node d.place d.refused; packet = Some p; outcome = came_to d.passed }

-- the serving after it, where it was served at once
abbrev pub serving_passed : ℕ → ℕ → Passed → Option LogEntry
serving_passed n v (Unplaced o) = None
serving_passed n v (Through w floor o) = Some (record { event = Serve n w v false; packet = None; outcome = o })

abbrev pub serving_of : Delivery → Option LogEntry
serving_of d = serving_passed d.node d.version d.passed

abbrev pub if_there : Option LogEntry → List LogEntry
if_there None = []
if_there (Some s) = s ∷ []

-- the events that are reported, the oldest first: none where no node was live; else its arrival, and the serving after it
abbrev pub events_of : Packet → Delivery → List LogEntry
events_of p d = if d.arrived then arrival_of p d ∷ if_there (serving_of d) else []

-- a trace with what is reported of a packet that arrived
abbrev pub with_delivery : Packet → Delivery → Trace → Trace
with_delivery p d c = with_passed (Arrive d.node d.place d.refused) p (λ w. Serve d.node w d.version false) d.passed c
