-- The record of a whole cluster, newest first: what it has of one node and of one worker, and how it was said.
use Rattle.std.specs.Prelude.{◌≡◌, ℕ, ◌==◌, Bool, true, false, List, [], ◌∷◌, Option, Some, None, if◌then◌else◌}
use Rattle.cluster_node.specs.Book.{Line}
use Rattle.cluster_node.specs.Record.{lines_of, node_verdict, NodeStands}
use Rattle.cluster_node.specs.Rules.{Rules}
use Rattle.cluster_node.specs.NodeView.{NodeView}
use Rattle.cluster_node.specs.declared.packets.Packet.{Packet}
use Rattle.cluster_node.specs.declared.packets.Packet.TheVariants.{Good, Bad}
use Rattle.cluster_node.specs.declared.events.Event.{Event}
use Rattle.cluster_node.specs.declared.events.Event.TheVariants.{Install, Arrive, Serve, Restart}
use Rattle.cluster_node.specs.declared.events.LogEntry.{LogEntry}
use Rattle.cluster_node.specs.declared.outcomes.Outcome.{Outcome}
use Rattle.cluster_node.specs.declared.outcomes.Outcome.TheVariants.{Installed, Placed, Forward, Dropped, Restarted, Refused}
use Rattle.cluster_node.specs.declared.outcomes.Passed.{Passed}
use Rattle.cluster_node.specs.declared.outcomes.Passed.TheVariants.{Unplaced, Through}
use Rattle.cluster_node.specs.declared.outcomes.Cause.{Cause}
use Rattle.cluster_node.specs.declared.outcomes.Cause.TheVariants.{NotIpv4, Truncated, BadHeader, BadChecksum, Fragment, NotTcpUdp, BadTransport, TooLarge}
use Rattle.cluster_node.specs.declared.outcomes.Cause.TheVariants.{NoService, NoBackend, NoVersion, RingsFull, LostAtRestart}

-- the node that an event names
abbrev pub node_of : Event → ℕ
node_of (Install n v) = n
node_of (Arrive n k marks) = n
node_of (Serve n w v r) = n
node_of (Restart n) = n

-- what the record has of one node
abbrev pub of_node : ℕ → List LogEntry → List LogEntry
of_node n [] = []
of_node n (s ∷ past) = if node_of s.event == n then s ∷ of_node n past else of_node n past

-- what it has of one worker's life so far, as lines
abbrev pub lines_at : List LogEntry → ℕ → ℕ → List Line
lines_at past n w = lines_of w (of_node n past)

-- the outcome of an event after the record of all before it
abbrev pub Judge : Type 0
Judge = List LogEntry → Event → Option Packet → Outcome

-- each outcome of a record is the judge's
abbrev pub Judged : Judge → List LogEntry → Type 0
Judged judge [] = Unit {0}
Judged judge (s ∷ past) = (s.outcome ≡ judge past s.event s.packet) × Judged judge past

-- an event with what the judge says of it
abbrev pub said : Judge → List LogEntry → Event → Option Packet → LogEntry
said judge past e p = record { event = e; packet = p; outcome = judge past e p }

-- the worker on which an arrival was placed
abbrev pub placed_on : Outcome → Option ℕ
placed_on (Placed u f) = Some u
placed_on Installed = None
placed_on (Forward m u k x b v) = None
placed_on (Dropped k d) = None
placed_on (Restarted l) = None
placed_on (Refused r) = None

-- the record with the arrival, and where a worker has it, with that worker's serving
abbrev pub with_arrival : Judge → List LogEntry → Event → Packet → List LogEntry
with_arrival judge past e p = said judge past e (Some p) ∷ past

abbrev pub with_serving : Judge → List LogEntry → Event → Packet → Event → List LogEntry
with_serving judge past e p serving = said judge (with_arrival judge past e p) serving None ∷ with_arrival judge past e p

-- A packet arrived, and where it was placed its worker served at once. What is reported of both is the judge's, one after
-- the other: serving at once is placing and then serving.
abbrev pub AreTold : Judge → List LogEntry → Event → Packet → (ℕ → Event) → Passed → Type 0
AreTold judge past e p serving (Unplaced o) = (placed_on o ≡ None) × (o ≡ judge past e (Some p))
AreTold judge past e p serving (Through w floor o) = (Placed w floor ≡ judge past e (Some p)) × (o ≡ judge (with_arrival judge past e p) (serving w) None)

-- the record with what is reported
abbrev pub with_told : List LogEntry → Event → Packet → (ℕ → Event) → Passed → List LogEntry
with_told past e p serving (Unplaced o) = record { event = e; packet = Some p; outcome = o } ∷ past
with_told past e p serving (Through w floor o) = record { event = serving w; packet = None; outcome = o } ∷ record {
  event = e;
  packet = Some p;
  outcome = Placed w floor;
} ∷ past

-- the node represents the record with what the judge says, and where the packet was placed another one represented the
-- record between
abbrev pub StandsThrough : Rules → List LogEntry → Event → Packet → (ℕ → Event) → Passed → NodeView → Type 0
StandsThrough rules past e p serving (Unplaced o) m = NodeStands rules (with_arrival (node_verdict rules) past e p) m
StandsThrough rules past e p serving (Through w floor o) m = (between : NodeView) × NodeStands rules (with_arrival (node_verdict rules) past e p) between
    × NodeStands rules (with_serving (node_verdict rules) past e p (serving w)) m

abbrev pub NodePasses : Rules → List LogEntry → Event → Packet → (ℕ → Event) → Passed → NodeView → Type 0
NodePasses rules past e p serving q m = AreTold (node_verdict rules) past e p serving q × StandsThrough rules past e p serving q m

-- a cause that reading a packet has
abbrev pub of_reading : Cause → Bool
of_reading NotIpv4 = true
of_reading Truncated = true
of_reading BadHeader = true
of_reading BadChecksum = true
of_reading Fragment = true
of_reading NotTcpUdp = true
of_reading BadTransport = true
of_reading TooLarge = true
of_reading NoService = false
of_reading NoBackend = false
of_reading NoVersion = false
of_reading RingsFull = false
of_reading LostAtRestart = false

-- a packet is one that reading gives: a bad one has a cause of reading
abbrev pub WasRead : Option Packet → Type 0
WasRead None = Unit {0}
WasRead (Some (Good x l t)) = Unit {0}
WasRead (Some (Bad c)) = of_reading c ≡ true
