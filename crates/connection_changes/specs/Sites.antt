-- Where packets were sent, read off the record of all events. A record has the newest event in front.
use Rattle.std.specs.Prelude.{ℕ, ◌+◌, ◌==◌, ◌&&◌, Bool, true, false, max, List, [], ◌∷◌, length, Option, Some, None, if◌then◌else◌}
use Rattle.five_tuple.specs.declared.Flow.{Flow}
use Rattle.cluster_node.specs.declared.packets.Packet.{Packet}
use Rattle.cluster_node.specs.declared.packets.Packet.TheVariants.{Good, Bad}
use Rattle.cluster_node.specs.declared.events.Event.{Event}
use Rattle.cluster_node.specs.declared.events.Event.TheVariants.{Install, Arrive, Serve, Restart}
use Rattle.cluster_node.specs.declared.events.LogEntry.{LogEntry}
use Rattle.cluster_node.specs.declared.outcomes.Outcome.{Outcome}
use Rattle.cluster_node.specs.declared.outcomes.Outcome.TheVariants.{Installed, Placed, Forward, Dropped, Restarted, Refused}
use Rattle.connection_changes.specs.declared.sites.Arrived.{Arrived}
use Rattle.connection_changes.specs.declared.sites.Served.{Served}
use Rattle.connection_changes.specs.declared.sites.Site.{Site}

-- the time of a record, where an arrival tells it: that of its packet, if it could be read
abbrev pub time_told : ℕ → Option Packet → Option Arrived
time_told k None = None
time_told k (Some (Good x l t)) = Some (record { packet = k; at = t })
time_told k (Some (Bad c)) = None

abbrev pub arrived_by : Event → Option Packet → Option Arrived
arrived_by (Install n v) p = None
arrived_by (Arrive n k marks) p = time_told k p
arrived_by (Serve n w v r) p = None
arrived_by (Restart n) p = None

-- the time of a record, after what is told of one
abbrev pub time_with : Option Arrived → ℕ → ℕ → ℕ
time_with None k before = before
time_with (Some a) k before = if a.packet == k then a.at else before

-- the time of a record as it arrived last
abbrev pub time_of : List LogEntry → ℕ → ℕ
time_of [] k = 0
time_of (s ∷ past) k = time_with (arrived_by s.event s.packet) k (time_of past k)

-- the node whose life an event begins: one that was restarted
abbrev pub restarted : ℕ → Outcome → Option ℕ
restarted n Installed = None
restarted n (Placed w f) = None
restarted n (Forward m w p x b v) = None
restarted n (Dropped p c) = None
restarted n (Restarted l) = Some n
restarted n (Refused r) = None

abbrev pub begun_by : Event → Outcome → Option ℕ
begun_by (Install n v) o = None
begun_by (Arrive n k marks) o = None
begun_by (Serve n w v r) o = None
begun_by (Restart n) o = restarted n o

-- how many lives a node had before this one
abbrev pub life_with : Option ℕ → ℕ → ℕ → ℕ
life_with None n before = before
life_with (Some m) n before = if m == n then before + 1 else before

abbrev pub life_of : List LogEntry → ℕ → ℕ
life_of [] n = 0
life_of (s ∷ past) n = life_with (begun_by s.event s.outcome) n (life_of past n)

-- the packet that a worker served by an event: it was sent, or it was dropped as it was served
abbrev pub dropped_by : Event → ℕ → Option Served
dropped_by (Install n v) k = None
dropped_by (Arrive n i marks) k = None
dropped_by (Serve n w v r) k = Some (record { node = n; worker = w; packet = k })
dropped_by (Restart n) k = None

abbrev pub served_by : Event → Outcome → Option Served
served_by e Installed = None
served_by e (Placed w f) = None
served_by e (Forward n w k x b v) = Some (record { node = n; worker = w; packet = k })
served_by e (Dropped k c) = dropped_by e k
served_by e (Restarted l) = None
served_by e (Refused r) = None

-- a clock after a restart, and after a packet of a time was served
abbrev pub clock_begun : Option ℕ → ℕ → ℕ → ℕ
clock_begun None n clock = clock
clock_begun (Some m) n clock = if m == n then 0 else clock

abbrev pub clock_with : Option Served → (ℕ → ℕ) → ℕ → ℕ → ℕ → ℕ
clock_with None time n w clock = clock
clock_with (Some s) time n w clock = if s.node == n && s.worker == w then max clock (time s.packet) else clock

-- the clock of a node's worker: the greatest time of the packets that it served in this life
abbrev pub clock_of : List LogEntry → ℕ → ℕ → ℕ
clock_of [] n w = 0
clock_of (s ∷ past) n w = clock_with (served_by s.event s.outcome) (λ k. time_of (s ∷ past) k) n w
    (clock_begun (begun_by s.event s.outcome) n (clock_of past n w))

-- whether a packet was sent
abbrev pub is_sent : Outcome → Bool
is_sent Installed = false
is_sent (Placed w f) = false
is_sent (Forward n w k x b v) = true
is_sent (Dropped k c) = false
is_sent (Restarted l) = false
is_sent (Refused r) = false

-- where nothing was sent
abbrev pub nowhere : Site
nowhere = record { packet = 0; time = 0; node = 0; worker = 0; life = 0; clock = 0 }

-- where the packet of the newest event was sent
abbrev pub site_in : List LogEntry → Outcome → Site
site_in past Installed = nowhere
site_in past (Placed w f) = nowhere
site_in past (Forward n w k x b v) = record { packet = k; time = time_of past k; node = n; worker = w; life = life_of past n; clock = clock_of past n w }
site_in past (Dropped k c) = nowhere
site_in past (Restarted l) = nowhere
site_in past (Refused r) = nowhere

-- where the packet of an event was sent, which is named by its number: how many events came before it
abbrev pub site_at : List LogEntry → ℕ → Site
site_at [] k = nowhere
site_at (s ∷ past) k = if k == length past then site_in (s ∷ past) s.outcome else site_at past k

-- the flow of a packet that was sent
abbrev pub sent_flow : Outcome → Option Flow
sent_flow Installed = None
sent_flow (Placed w f) = None
sent_flow (Forward n w k x b v) = Some x
sent_flow (Dropped k c) = None
sent_flow (Restarted l) = None
sent_flow (Refused r) = None
