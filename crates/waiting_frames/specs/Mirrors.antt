-- The frames that wait are those of the packets that wait, by the record of a cluster's events.
use Rattle.std.specs.Prelude.{◌≡◌, ℕ, ◌*◌, ◌<◌, ◌≤◌, List, ◌∷◌, length, map, Some, slice_get}
use Rattle.pcap_file.specs.Format.{Record}
use Rattle.cluster_node.specs.declared.events.Event.{Event}
use Rattle.cluster_node.specs.declared.events.Event.TheVariants.{Install, Arrive, Serve, Restart}
use Rattle.cluster_node.specs.declared.events.LogEntry.{LogEntry}
use Rattle.cluster_node.specs.Records.{Judged, lines_at}
use Rattle.cluster_core.specs.Cluster.{Cluster, Orderly, queue_by}
use Rattle.waiting_frames.specs.Queues.{queue_at}

-- at each worker of the cluster the records of the capture that wait are those of the packets that wait, in their order
abbrev pub Mirrors : List Record → Cluster → List LogEntry → List (List Record) → Type 0
Mirrors all k past qs = (n w : ℕ) → n < k.nodes → w < k.workers →
    map (λ r. Some r) (queue_at qs n w) ≡ map (λ i. slice_get all i) (queue_by (lines_at past n w))

-- the queues mirror a record, have room for the cluster, and what the cluster says next is its judge's
pub record CanFollow (all : List Record) (k : Cluster) (past : List LogEntry) (s : LogEntry) (qs : List (List Record)) : Type 0 where
  pub workers : k.workers ≤ 16
  pub room : k.nodes * 16 ≤ length qs
  pub orderly : Orderly k
  pub judged : Judged k.judge (s ∷ past)
  pub mirrors : Mirrors all k past qs

-- an event is the arrival of a packet that has this record
abbrev pub ComesAs : List Record → Record → Event → Type 0
ComesAs all r (Install n v) = ⊥
ComesAs all r (Arrive n i marks) = slice_get all i ≡ Some r
ComesAs all r (Serve n w v refused) = ⊥
ComesAs all r (Restart n) = ⊥

abbrev pub IsNoArrival : Event → Type 0
IsNoArrival (Install n v) = Unit {0}
IsNoArrival (Arrive n i marks) = ⊥
IsNoArrival (Serve n w v refused) = Unit {0}
IsNoArrival (Restart n) = Unit {0}
