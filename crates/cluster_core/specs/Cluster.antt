-- A cluster as a scenario's steps see it, and what they read off the record of all events. A record has the newest in front.
use Rattle.std.specs.Prelude.{◌≡◌, ◌≤◌, ◌<◌, ℕ, ◌-◌, ◌&&◌, nat_lt, Bool, List, ◌++◌, length, reverse, map, drop, Option, Some, None, if◌then◌else◌, slice_get}
use Rattle.five_tuple.specs.declared.Flow.{Flow}
use Rattle.cluster_node.specs.declared.packets.Packet.{Packet}
use Rattle.cluster_node.specs.declared.packets.Packet.TheVariants.{Good, Bad}
use Rattle.cluster_node.specs.declared.events.Event.{Event}
use Rattle.cluster_node.specs.declared.events.Event.TheVariants.{Serve}
use Rattle.cluster_node.specs.declared.events.LogEntry.{LogEntry}
use Rattle.cluster_node.specs.declared.outcomes.Outcome.TheVariants.{Forward}
use Rattle.cluster_node.specs.declared.serving.Item.{Item}
use Rattle.pool_versions.specs.declared.backend.Backend.{Backend}
use Rattle.cluster_node.specs.Book.{Line, placed, taken_count, next_item}
use Rattle.cluster_node.specs.Record.{newest_of}
use Rattle.cluster_node.specs.Records.{Judge, Judged, of_node, lines_at, WasRead}

pub record Cluster : Type 0 where
  pub judge : Judge
  pub nodes : ℕ
  -- the workers of each node
  pub workers : ℕ

-- the version installed last on a node of the cluster, 0 where there is none
unfoldable pub newest_on : Cluster → ℕ → List LogEntry → ℕ
newest_on k n past = if nat_lt n k.nodes then newest_of (of_node n past) else 0

-- how many packets were placed and not taken, by a worker's lines
abbrev pub left_of : List Line → ℕ
left_of lines = length (placed lines) - taken_count lines

-- how many packets wait for a worker of the cluster
unfoldable pub waiting_on : Cluster → ℕ → ℕ → List LogEntry → ℕ
waiting_on k n w past = if nat_lt n k.nodes && nat_lt w k.workers then left_of (lines_at past n w) else 0

abbrev pub flow_of : Packet → Option Flow
flow_of (Good x n t) = Some x
flow_of (Bad c) = None

-- all of a list are packets that reading gives
abbrev pub WereRead : List Packet → Type 0
WereRead ps = (k : ℕ) (p : Packet) → slice_get ps k ≡ Some p → WasRead (Some p)

-- after these events of a record, the oldest in front, come those
abbrev pub Behind : List LogEntry → List LogEntry → List LogEntry → Type 0
Behind before past events = reverse past ≡ before ++ events

-- the packets that wait for a worker, by their places, the first in front
abbrev pub queue_by : List Line → List ℕ
queue_by lines = map (λ i. i.packet) (drop (taken_count lines) (placed lines))

-- an event is the serving that takes the packet that waits first for a worker of the cluster
pub record TakesFirst (k : Cluster) (past : List LogEntry) (e : Event) (n w place : ℕ) : Type 0 where
  pub version : ℕ
  pub refused : Bool
  pub item : Item
  pub event : e ≡ Serve n w version refused
  pub node : n < k.nodes
  pub worker : w < k.workers
  pub first : next_item (lines_at past n w) ≡ Some item
  pub packet : item.packet ≡ place

-- What a cluster's judge owes to whoever keeps the waiting packets. No worker serves more than was placed on it. What is
-- sent is the packet that waits first.
pub record Orderly (k : Cluster) : Type 0 where
  pub sound : (past : List LogEntry) → Judged k.judge past → (n w : ℕ) → n < k.nodes → w < k.workers →
      taken_count (lines_at past n w) ≤ length (placed (lines_at past n w))
  pub first : (past : List LogEntry) (e : Event) (p : Option Packet) (n w place : ℕ) (x : Flow) (b : Backend) (v : ℕ) →
      k.judge past e p ≡ Forward n w place x b v → TakesFirst k past e n w place
