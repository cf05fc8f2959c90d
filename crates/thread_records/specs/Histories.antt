-- Histories, which have the oldest event in front, and the records that they make, which have the newest in front.
use Rattle.std.specs.Prelude.{◌≡◌, ◌≤◌, ◌&&◌, ◌==◌, ℕ, ◌+◌, Bool, true, List, [], ◌∷◌, length, nat_le}
use Rattle.steering.specs.Steering.{refuses}
use Rattle.cluster_node.specs.declared.packets.Packet.{Packet}
use Rattle.cluster_node.specs.declared.events.Event.{Event}
use Rattle.cluster_node.specs.declared.events.Event.TheVariants.{Install, Arrive, Serve, Restart}
use Rattle.cluster_node.specs.declared.events.LogEntry.{LogEntry}
use Rattle.cluster_node.specs.declared.outcomes.Outcome.{Outcome}
use Rattle.cluster_node.specs.Rules.{Rules}
use Rattle.cluster_node.specs.Book.{placed}
use Rattle.cluster_node.specs.Record.{accepted, lines_of, of_choice, placed_count, served_count}
use Rattle.cluster_node.specs.Records.{node_of, of_node}
use Rattle.cluster_core.specs.Runs.{say, packet_of}
use Rattle.handled_list.specs.declared.handled.Handled.{Handled}
use Rattle.thread_records.specs.declared.command.Command.{Command}
use Rattle.thread_records.specs.declared.command.Command.TheVariants.{Publish, Offer}
use Rattle.thread_records.specs.declared.command.Command.TheVariants as commands

-- the record after more events, each with its verdict
abbrev pub said_on : Rules → List LogEntry → List Packet → List Event → List LogEntry
said_on rules past packets [] = past
said_on rules past packets (e ∷ es) = said_on rules (say rules past e (packet_of packets e) ∷ past) packets es

-- the record that a history makes
abbrev pub record_of : Rules → List Packet → List Event → List LogEntry
record_of rules packets es = said_on rules [] packets es

-- what it has of one node
abbrev pub past_of : Rules → List Packet → ℕ → List Event → List LogEntry
past_of rules packets n es = of_node n (record_of rules packets es)

-- every event is one of the node
abbrev pub AreOf : ℕ → List Event → Type 0
AreOf n [] = Unit {0}
AreOf n (e ∷ es) = (node_of e ≡ n) × AreOf n es

-- what a worker's serving is in a history, and its outcome
abbrev pub serve_of : ℕ → ℕ → Handled → Event
serve_of n w h = Serve n w h.version h.unstored

abbrev pub outcome_of : ℕ → ℕ → Handled → Outcome
outcome_of n w h = of_choice n w h.item h.choice

-- No serving is refused.
abbrev pub AcceptedServe : Event → Outcome → Type 0
AcceptedServe (Install n v) o = Unit {0}
AcceptedServe (Arrive n k marks) o = Unit {0}
AcceptedServe (Serve n w v r) o = accepted o ≡ true
AcceptedServe (Restart n) o = Unit {0}

abbrev pub ServesAreAccepted : List LogEntry → Type 0
ServesAreAccepted [] = Unit {0}
ServesAreAccepted (s ∷ past) = AcceptedServe s.event s.outcome × ServesAreAccepted past

-- A worker is marked as refusing only where its ring had taken as many packets in that life as it has places.
abbrev pub DueAt : ℕ → Event → List LogEntry → Type 0
DueAt ring (Install n v) past = Unit {0}
DueAt ring (Arrive n k marks) past = (w : ℕ) → refuses marks w ≡ true → ring ≤ length (placed (lines_of w past))
DueAt ring (Serve n w v r) past = Unit {0}
DueAt ring (Restart n) past = Unit {0}

abbrev pub MarksAreDue : ℕ → List LogEntry → Type 0
MarksAreDue ring [] = Unit {0}
MarksAreDue ring (s ∷ past) = DueAt ring s.event past × MarksAreDue ring past

-- In each life the node's own steps are before the servings, and those of worker 0 before those of worker 1 and so on. The
-- number is 0 before the servings of a life, and one more than the worker that served last.
abbrev pub stage_after : ℕ → Event → ℕ
stage_after k (Install n v) = k
stage_after k (Arrive n p marks) = k
stage_after k (Serve n w v r) = w + 1
stage_after k (Restart n) = 0

abbrev pub may_follow : ℕ → Event → Bool
may_follow k (Install n v) = k == 0
may_follow k (Arrive n p marks) = k == 0
may_follow k (Serve n w v r) = nat_le k (w + 1)
may_follow k (Restart n) = true

abbrev pub stage_of : ℕ → List Event → ℕ
stage_of k [] = k
stage_of k (e ∷ es) = stage_of (stage_after k e) es

abbrev pub is_by_lives : ℕ → List Event → Bool
is_by_lives k [] = true
is_by_lives k (e ∷ es) = may_follow k e && is_by_lives (stage_after k e) es

-- the driver's steps: a history without its servings
abbrev pub commands_of : List Event → List Command
commands_of [] = []
commands_of (Install n v ∷ es) = Publish v ∷ commands_of es
commands_of (Arrive n k marks ∷ es) = Offer k ∷ commands_of es
commands_of (Serve n w v r ∷ es) = commands_of es
commands_of (Restart n ∷ es) = commands.Restart ∷ commands_of es

-- no packet of the node waits
abbrev pub NoneWaits : List LogEntry → Type 0
NoneWaits past = served_count past ≡ placed_count past
