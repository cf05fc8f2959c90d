-- One node's part of a cluster's run: its events are judged, and those of other nodes are left out.
use Rattle.std.specs.Prelude.{◌≡◌, ℕ, ◌==◌, Bool, true, false, not, List, [], ◌∷◌, Option, Some, None, if◌then◌else◌}
use Rattle.cluster_node.specs.declared.packets.Packet.{Packet}
use Rattle.cluster_node.specs.declared.events.Event.{Event}
use Rattle.cluster_node.specs.declared.events.LogEntry.{LogEntry}
use Rattle.cluster_node.specs.declared.outcomes.Outcome.TheVariants.{Refused}
use Rattle.cluster_node.specs.declared.outcomes.Reason.TheVariants.{NoNode}
use Rattle.cluster_node.specs.Records.{Judge, node_of, of_node}
use Rattle.cluster_core.specs.Cluster.{Cluster}
use Rattle.event_trace.specs.Trace.{Trace}

-- whether a node's events are left out, where only one node is played, or all are
abbrev pub leaves_out : Option ℕ → ℕ → Bool
leaves_out None n = false
leaves_out (Some m) n = not (n == m)

-- what a record has of the part
abbrev pub of_part : Option ℕ → List LogEntry → List LogEntry
of_part None past = past
of_part (Some m) past = of_node m past

-- the judge of the part: a node that is left out isn't there
abbrev pub part_judge : Option ℕ → Judge → Judge
part_judge only judge past e p = if leaves_out only (node_of e) then Refused NoNode else judge (of_part only past) e p

-- the cluster of which that part is played
abbrev pub part_of : Option ℕ → Cluster → Cluster
part_of only k = record k { judge = part_judge only k.judge }

-- a trace with the part's events alone
abbrev pub part_trace : Option ℕ → Trace → Trace
part_trace only c = record c { past = of_part only c.past }

-- in a record all events of nodes that are left out were refused so
abbrev pub LeavesOthers : Option ℕ → List LogEntry → Type 0
LeavesOthers only [] = Unit {0}
LeavesOthers only (s ∷ past) = (leaves_out only (node_of s.event) ≡ true → s.outcome ≡ Refused NoNode) × LeavesOthers only past

-- a judge looks at the events of the event's own node alone
abbrev pub IsOwn : Judge → Type 0
IsOwn judge = (past other : List LogEntry) (e : Event) (p : Option Packet) → of_node (node_of e) past ≡ of_node (node_of e) other →
    judge past e p ≡ judge other e p
