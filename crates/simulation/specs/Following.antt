-- What is sent as events come, one after another.
use Rattle.std.specs.Prelude.{◌≤◌, ◌*◌, List, [], ◌∷◌, length, Some}
use Rattle.pcap_file.specs.Format.{Record}
use Rattle.cluster_node.specs.declared.outcomes.Outcome.{Outcome}
use Rattle.cluster_node.specs.declared.outcomes.Outcome.TheVariants.{Installed, Placed, Forward, Dropped, Restarted, Refused}
use Rattle.cluster_node.specs.declared.events.LogEntry.{LogEntry}
use Rattle.cluster_node.specs.Records.{Judged}
use Rattle.cluster_core.specs.Cluster.{Cluster, Orderly}
use Rattle.waiting_frames.specs.Mirrors.{Mirrors, IsNoArrival, ComesAs}
use Rattle.simulation.specs.Sent.{Traffic, Sending, sent_at}
use Rattle.simulation.specs.PrivateGoing.{onto}

-- what an outcome sends of this record
unfoldable pub sent_with : Traffic → Outcome → Record → List Sending
sent_with t Installed r = []
sent_with t (Placed w f) r = []
sent_with t (Forward n w k x b v) r = sent_at t n b (Some r)
sent_with t (Dropped k c) r = []
sent_with t (Restarted l) r = []
sent_with t (Refused reason) r = []

-- none of these is an arrival
abbrev pub NoArrivals : List LogEntry → Type 0
NoArrivals [] = Unit {0}
NoArrivals (s ∷ ss) = IsNoArrival s.event × NoArrivals ss

-- only the first of these may be an arrival, and then of a packet that has this record
abbrev pub ArrivesFirst : List Record → Record → List LogEntry → Type 0
ArrivesFirst all r [] = Unit {0}
ArrivesFirst all r (s ∷ ss) = ComesAs all r s.event × NoArrivals ss

-- the queues of frames mirror a record, and these events come after it
pub record CanSettle (all : List Record) (k : Cluster) (past events : List LogEntry) (qs : List (List Record)) : Type 0 where
  pub workers : k.workers ≤ 16
  pub room : k.nodes * 16 ≤ length qs
  pub orderly : Orderly k
  pub judged : Judged k.judge (onto past events)
  pub mirrors : Mirrors all k past qs
