-- Which connections were split, read off the record of all events. A record has the newest event in front; an event's number
-- is how many came before it.
use Rattle.std.specs.Prelude.{ℕ, ◌==◌, List, [], ◌∷◌, ◌++◌, length, Option, Some, None, is_some, if◌then◌else◌}
use Rattle.five_tuple.specs.declared.Flow.{Flow}
use Rattle.connection_table.specs.Touches.{same_flow}
use Rattle.selection.specs.Readied.{same_backend}
use Rattle.cluster_node.specs.declared.events.Event.{Event}
use Rattle.cluster_node.specs.declared.events.Event.TheVariants.{Install, Arrive, Serve, Restart}
use Rattle.cluster_node.specs.declared.events.LogEntry.{LogEntry}
use Rattle.cluster_node.specs.declared.outcomes.Outcome.{Outcome}
use Rattle.cluster_node.specs.declared.outcomes.Outcome.TheVariants.{Installed, Placed, Forward, Dropped, Restarted, Refused}
use Rattle.run_report.specs.declared.sending.Sending.{Sending}
use Rattle.run_report.specs.declared.sending.Split.{Split}

-- the version under which an event serves; 0 where it is no serving
abbrev pub version_of : Event → ℕ
version_of (Install n v) = 0
version_of (Arrive n k marks) = 0
version_of (Serve n w v r) = v
version_of (Restart n) = 0

-- what was sent at the event of a number
abbrev pub sent_by : ℕ → Event → Outcome → Option Sending
sent_by k e Installed = None
sent_by k e (Placed w f) = None
sent_by k e (Forward n w p x b v) = Some (record { number = k; flow = x; version = version_of e; backend = b; origin = v })
sent_by k e (Dropped p c) = None
sent_by k e (Restarted l) = None
sent_by k e (Refused r) = None

-- what a record says was sent at the event of a number
abbrev pub sent_at : List LogEntry → ℕ → Option Sending
sent_at [] k = None
sent_at (s ∷ past) k = if k == length past then sent_by (length past) s.event s.outcome else sent_at past k

-- a flow's last send, after one more send or none
abbrev pub last_after : Flow → Option Sending → Option Sending → Option Sending
last_after x None before = before
last_after x (Some s) before = if same_flow s.flow x then Some s else before

-- the last send of a flow
abbrev pub last_sent : List LogEntry → Flow → Option Sending
last_sent [] x = None
last_sent (s ∷ past) x = last_after x (sent_by (length past) s.event s.outcome) (last_sent past x)

-- a send of a flow after its last one is a split where the backends differ, in name or address
abbrev pub split_after : Option Sending → Sending → List Split
split_after None later = []
split_after (Some first) later = if same_backend first.backend later.backend then [] else record { first = first; later = later } ∷ []

abbrev pub split_by : (Flow → Option Sending) → Option Sending → List Split
split_by last None = []
split_by last (Some s) = split_after (last s.flow) s

-- the splits of a record, in the order of their later sends
abbrev pub splits_of : List LogEntry → List Split
splits_of [] = []
splits_of (s ∷ past) = splits_of past ++ split_by (λ x. last_sent past x) (sent_by (length past) s.event s.outcome)

-- the flows of which a packet was sent, each once
abbrev pub flows_with : (Flow → Option Sending) → Option Sending → List Flow → List Flow
flows_with last None xs = xs
flows_with last (Some s) xs = if is_some (last s.flow) then xs else s.flow ∷ xs

abbrev pub flows_of : List LogEntry → List Flow
flows_of [] = []
flows_of (s ∷ past) = flows_with (λ x. last_sent past x) (sent_by (length past) s.event s.outcome) (flows_of past)

-- What is said by a history's events and the outcome of each, the oldest in front. The packets of arrivals are left out,
-- since no split depends on them.
abbrev pub said_of : List Event → List Outcome → List LogEntry
said_of [] os = []
said_of (e ∷ es) [] = []
said_of (e ∷ es) (o ∷ os) = record { event = e; packet = None; outcome = o } ∷ said_of es os
