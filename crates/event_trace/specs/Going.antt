-- How a run goes on: what a method of it owes to those above.
use Rattle.std.specs.Prelude.{◌≡◌, List, OnOk, Result}
use Rattle.spreader.specs.Choices.{Choice}
use Rattle.cluster_node.specs.declared.packets.Packet.{Packet}
use Rattle.cluster_node.specs.declared.events.LogEntry.{LogEntry}
use Rattle.cluster_core.specs.Cluster.{Cluster, Behind}
use Rattle.event_trace.specs.Trace.{Trace}
use Rattle.event_trace.specs.Steps.{World, SameChoice}

-- the trace after is that of a move, in each world that has this cluster
abbrev pub Goes : Cluster → (World → Trace → Trace) → Trace → Trace → Type 0
Goes cluster move old new = (w : World) → w.cluster ≡ cluster → new ≡ move w old

-- the same of a move that a condition allows
abbrev pub GoesWhere : Type 0 → Cluster → (World → Trace → Trace) → Trace → Trace → Type 0
GoesWhere Allowed cluster move old new = (w : World) → w.cluster ≡ cluster → Allowed → new ≡ move w old

-- the same where the world's spreader chooses so
abbrev pub GoesBy : Cluster → Choice → (World → Trace → Trace) → Trace → Trace → Type 0
GoesBy cluster choice move old new = (w : World) → w.cluster ≡ cluster → SameChoice w.choice choice → new ≡ move w old

-- the same where its records are these
abbrev pub GoesOver : List Packet → Cluster → Choice → (World → Trace → Trace) → Trace → Trace → Type 0
GoesOver packets cluster choice move old new = (w : World) → w.cluster ≡ cluster → SameChoice w.choice choice → w.packets ≡ packets → new ≡ move w old

-- what was reported behind the events before a record is so of a later one, with what was added to the report
abbrev pub ToldAfter : {T E : Type 0} → Result T E → List LogEntry → List LogEntry → List LogEntry → List LogEntry → Type 0
ToldAfter result past events past' events' = (before : List LogEntry) → Behind before past events → OnOk result (Behind before past' events')
