-- What a list of events results in: each outcome is read off the record of all events before it.
use Rattle.std.specs.Prelude.{◌≡◌, ℕ, ◌+◌, Bool, true, false, List, [], ◌∷◌, length, Option, Some, None, if◌then◌else◌, nat_lt, slice_get, is_some}
use Rattle.forwarder.specs.Serving.{Pick}
use Rattle.cluster_node.specs.NodeView.{NodeView}
use Rattle.cluster_node.specs.declared.packets.Packet.{Packet}
use Rattle.cluster_node.specs.declared.events.Event.{Event}
use Rattle.cluster_node.specs.declared.events.Event.TheVariants.{Install, Arrive, Serve, Restart}
use Rattle.cluster_node.specs.declared.outcomes.Outcome.{Outcome}
use Rattle.cluster_node.specs.declared.outcomes.Outcome.TheVariants.{Refused}
use Rattle.cluster_node.specs.declared.outcomes.Reason.TheVariants.{NoNode}
use Rattle.cluster_node.specs.Rules.{Rules}
use Rattle.cluster_node.specs.declared.events.LogEntry.{LogEntry}
use Rattle.cluster_node.specs.Record.{node_verdict, waits, NodeStands, installed_of, prepared_at, waiting_at, IsPrepared, ArePrepared}
use Rattle.cluster_node.specs.declared.outcomes.Passed.{Passed}
use Rattle.cluster_node.specs.Records.{node_of, of_node, AreTold, with_told}
use Rattle.cluster_core.specs.Cluster.{Cluster}
use Rattle.cluster_core.specs.Totals.{came_of, went_of}
use Rattle.cluster_core.specs.RunView.{RunView}
use Rattle.pool_versions.specs.Pool.{Pools, version_at}
use Rattle.pool_versions.specs.declared.service.Version.{Version}
use Rattle.selection.specs.Readied.{Readied, readied_version}

-- the outcome of an event after all before it
abbrev pub verdict : Rules → List LogEntry → Event → Option Packet → Outcome
verdict rules past e x = if nat_lt (node_of e) rules.nodes then node_verdict rules (of_node (node_of e) past) e x else Refused NoNode

-- the cluster of these rules
abbrev pub cluster_by : Rules → Cluster
cluster_by rules = record { judge = verdict rules; nodes = rules.nodes; workers = rules.workers }

-- the packet that an event names
abbrev pub packet_of : List Packet → Event → Option Packet
packet_of packets (Install n v) = None
packet_of packets (Arrive n k marks) = slice_get packets k
packet_of packets (Serve n w v r) = None
packet_of packets (Restart n) = None

abbrev pub say : Rules → List LogEntry → Event → Option Packet → LogEntry
say rules past e x = record { event = e; packet = x; outcome = verdict rules past e x }

-- the outcomes of the events, after a record
abbrev pub verdicts : Rules → List LogEntry → List Packet → List Event → List Outcome
verdicts rules past packets [] = []
verdicts rules past packets (e ∷ es) = verdict rules past e (packet_of packets e) ∷ verdicts rules (say rules past e (packet_of packets e) ∷ past) packets es

-- how many packets wait in all nodes
abbrev pub waiting_in : List NodeView → ℕ
waiting_in [] = 0
waiting_in (m ∷ ms) = waits m.workers + waiting_in ms

-- what is prepared is what the rules say
abbrev pub AreGood : {S : Type 0} → (S → ℕ → Pick) → Rules → List (Readied S) → Type 0
AreGood pick_of rules versions = (v : ℕ) → is_some (prepared_at v versions) ≡ true → IsPrepared pick_of rules versions v

-- a run represents a record
pub record RunStands {S : Type 0} (pick_of : S → ℕ → Pick) (rules : Rules) (past : List LogEntry) (run : RunView S) : Type 0 where
  pub working : run.failed ≡ false
  pub count : length run.nodes ≡ rules.nodes
  -- each version that was installed on a node is prepared
  pub good : AreGood pick_of rules run.versions
  pub prepared : (n : ℕ) → ArePrepared pick_of rules run.versions (installed_of (of_node n past))
  -- what came into the queues is what went out and what waits
  pub balance : waiting_in run.nodes + went_of past ≡ came_of past
  pub each : (n : ℕ) (m : NodeView) → slice_get run.nodes n ≡ Some m → NodeStands rules (of_node n past) m

-- an outcome is what the record says, and the run represents the record with it
abbrev pub RunGoes : {S : Type 0} → (S → ℕ → Pick) → Rules → List LogEntry → Event → Option Packet → Outcome → RunView S → Type 0
RunGoes pick_of rules past e x o run = (o ≡ verdict rules past e x) × RunStands pick_of rules (say rules past e x ∷ past) run

-- What became of a packet, and of its serving where it was placed, is what the record says of both. The run represents the
-- record with them.
abbrev pub RunPasses : {S : Type 0} → (S → ℕ → Pick) → Rules → List LogEntry → Event → Packet → (ℕ → Event) → Passed → RunView S → Type 0
RunPasses pick_of rules past e p serving q run = AreTold (verdict rules) past e p serving q × RunStands pick_of rules (with_told past e p serving q) run

-- the versions after one was prepared: it is prepared once
abbrev pub prepared_with : {S : Type 0} → S → ℕ → Version → List (Readied S) → List (Readied S)
prepared_with scheme size version versions =
    if is_some (prepared_at version.number versions) then versions else readied_version scheme size version ∷ versions

-- after a version was prepared if it is above a node's newest
abbrev pub prepared_above : {S : Type 0} → S → ℕ → ℕ → Version → List (Readied S) → List (Readied S)
prepared_above scheme size newest version versions = if nat_lt newest version.number then prepared_with scheme size version versions else versions

abbrev pub prepared_if : {S : Type 0} → S → ℕ → ℕ → Option Version → List (Readied S) → List (Readied S)
prepared_if scheme size newest None versions = versions
prepared_if scheme size newest (Some version) versions = prepared_above scheme size newest version versions

-- after the one that an event installs on a node of this newest version was, if the catalogue has it
abbrev pub prepared_for : {S : Type 0} → S → ℕ → Pools → ℕ → Event → List (Readied S) → List (Readied S)
prepared_for scheme size pools newest (Install n v) versions = prepared_if scheme size newest (version_at v pools.versions) versions
prepared_for scheme size pools newest (Arrive n k marks) versions = versions
prepared_for scheme size pools newest (Serve n w v r) versions = versions
prepared_for scheme size pools newest (Restart n) versions = versions

-- whether an event installs a version that the catalogue has
abbrev pub is_known_in : Pools → Event → Bool
is_known_in pools (Install n v) = is_some (version_at v pools.versions)
is_known_in pools (Arrive n k marks) = false
is_known_in pools (Serve n w v r) = false
is_known_in pools (Restart n) = false

-- the newest version of a node, 0 where there is no such node
abbrev pub newest_at : Option NodeView → ℕ
newest_at None = 0
newest_at (Some m) = m.newest

-- how many packets wait at a worker, 0 where there is no such node or worker
abbrev pub queued_at : ℕ → Option NodeView → ℕ
queued_at w None = 0
queued_at w (Some m) = waiting_at (slice_get m.workers w)
