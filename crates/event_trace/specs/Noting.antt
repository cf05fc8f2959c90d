-- What is kept of a cluster's record.
use Rattle.std.specs.Prelude.{Option}
use Rattle.cluster_node.specs.declared.packets.Packet.{Packet}
use Rattle.cluster_node.specs.declared.events.Event.{Event}
use Rattle.cluster_node.specs.declared.events.LogEntry.{LogEntry}
use Rattle.cluster_node.specs.declared.outcomes.Outcome.{Outcome}

abbrev pub said_by : Event → Option Packet → Outcome → LogEntry
said_by e p o = record { event = e; packet = p; outcome = o }
