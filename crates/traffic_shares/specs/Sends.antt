-- What was sent, read off the record of all events. A record has the newest event in front.
use Rattle.std.specs.Prelude.{ℕ, ◌==◌, List, [], ◌∷◌, Option, Some, None, if◌then◌else◌}
use Rattle.cluster_node.specs.declared.packets.Packet.{Packet}
use Rattle.cluster_node.specs.declared.packets.Packet.TheVariants.{Good, Bad}
use Rattle.cluster_node.specs.declared.events.Event.{Event}
use Rattle.cluster_node.specs.declared.events.Event.TheVariants.{Install, Arrive, Serve, Restart}
use Rattle.cluster_node.specs.declared.events.LogEntry.{LogEntry}
use Rattle.cluster_node.specs.declared.outcomes.Outcome.{Outcome}
use Rattle.cluster_node.specs.declared.outcomes.Outcome.TheVariants.{Installed, Placed, Forward, Dropped, Restarted, Refused}
use Rattle.traffic_shares.specs.declared.sends.Measured.{Measured}
use Rattle.traffic_shares.specs.declared.sends.Sent.{Sent}

-- the length of a record's datagram, where an arrival tells it: that of its packet, if it could be read
abbrev pub measured : ℕ → Option Packet → Option Measured
measured k None = None
measured k (Some (Good x l t)) = Some (record { packet = k; len = l })
measured k (Some (Bad c)) = None

abbrev pub measured_by : Event → Option Packet → Option Measured
measured_by (Install n v) p = None
measured_by (Arrive n k marks) p = measured k p
measured_by (Serve n w v r) p = None
measured_by (Restart n) p = None

-- the length of a record's datagram, after what is told of one
abbrev pub length_with : Option Measured → ℕ → ℕ → ℕ
length_with None k before = before
length_with (Some m) k before = if m.packet == k then m.len else before

-- the length of a record's datagram as it arrived last
abbrev pub length_of : List LogEntry → ℕ → ℕ
length_of [] k = 0
length_of (s ∷ past) k = length_with (measured_by s.event s.packet) k (length_of past k)

-- what was sent where a worker served under a version
abbrev pub sent_under : ℕ → Outcome → Option Sent
sent_under v Installed = None
sent_under v (Placed w f) = None
sent_under v (Forward n w k x b origin) = Some (record { version = v; node = n; packet = k; flow = x; backend = b })
sent_under v (Dropped k c) = None
sent_under v (Restarted l) = None
sent_under v (Refused r) = None

-- what was sent at an event
abbrev pub sent_by : Event → Outcome → Option Sent
sent_by (Install n v) o = None
sent_by (Arrive n k marks) o = None
sent_by (Serve n w v r) o = sent_under v o
sent_by (Restart n) o = None
