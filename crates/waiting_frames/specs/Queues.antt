-- The queues of the frames that wait, and how an event moves them. A node has 16 of them, one for each worker that it may
-- have. They follow one another in the order of nodes and workers.
use Rattle.std.specs.Prelude.{◌≡◌, ℕ, zero, suc, ◌+◌, ◌*◌, ◌<◌, ◌==◌, ◌&&◌, nat_lt, Bool, false, List, [], ◌∷◌, ◌++◌, length, drop, Option, Some, None}
use Rattle.std.specs.Prelude.{if◌then◌else◌, slice_get, slice_set, slice_index_or}
use Rattle.pcap_file.specs.Format.{Record}
use Rattle.cluster_node.specs.declared.packets.Packet.{Packet}
use Rattle.cluster_node.specs.declared.packets.Packet.TheVariants.{Good, Bad}
use Rattle.cluster_node.specs.declared.events.Event.{Event}
use Rattle.cluster_node.specs.declared.events.Event.TheVariants.{Install, Arrive, Serve, Restart}
use Rattle.cluster_node.specs.declared.events.LogEntry.{LogEntry}
use Rattle.cluster_node.specs.declared.outcomes.Outcome.{Outcome}
use Rattle.cluster_node.specs.declared.outcomes.Outcome.TheVariants.{Installed, Placed, Forward, Dropped, Restarted, Refused}
use Rattle.cluster_node.specs.Record.{accepted}

-- the records whose frames wait at a worker of a node, the first in front; none where there is no such queue
abbrev pub queue_at : List (List Record) → ℕ → ℕ → List Record
queue_at qs n w = if nat_lt w 16 then slice_index_or qs (n * 16 + w) [] else []

abbrev pub HasQueue : List (List Record) → ℕ → ℕ → Type 0
HasQueue qs n w = (w < 16) × (n * 16 + w < length qs)

-- where a worker's queue lies among so many
abbrev pub place_of : ℕ → ℕ → ℕ → Option ℕ
place_of count n w = if nat_lt w 16 && nat_lt (n * 16 + w) count then Some (n * 16 + w) else None

-- each queue moves by its node and worker as this says, and their number stays
pub record Moves (old new : List (List Record)) (move : ℕ → ℕ → List Record → List Record) : Type 0 where
  pub count : length new ≡ length old
  pub each : (n w : ℕ) → HasQueue old n w → queue_at new n w ≡ move n w (queue_at old n w)

-- the queue of one worker changes
abbrev pub only_at : ℕ → ℕ → (List Record → List Record) → ℕ → ℕ → List Record → List Record
only_at m u change n w q = if m == n && u == w then change q else q

-- the node and the worker where an arrival made its packet wait
abbrev pub on_worker : ℕ → Outcome → Option (ℕ × ℕ)
on_worker n Installed = None
on_worker n (Placed w floor) = Some (n, w)
on_worker n (Forward m w k x b v) = None
on_worker n (Dropped k c) = None
on_worker n (Restarted lost) = None
on_worker n (Refused r) = None

abbrev pub on_node : ℕ → Option Packet → Outcome → Option (ℕ × ℕ)
on_node n None o = None
on_node n (Some (Bad c)) o = None
on_node n (Some (Good x len at)) o = on_worker n o

abbrev pub placed_by : Event → Option Packet → Outcome → Option (ℕ × ℕ)
placed_by (Install n v) p o = None
placed_by (Arrive n k marks) p o = on_node n p o
placed_by (Serve n w v refused) p o = None
placed_by (Restart n) p o = None

-- a record is put at the end of the queue where its packet waits
abbrev pub put_by : Option (ℕ × ℕ) → Record → ℕ → ℕ → List Record → List Record
put_by None r n w q = q
put_by (Some at) r n w q = only_at at.0 at.1 (λ old. old ++ r ∷ []) n w q

abbrev pub arrived : LogEntry → Record → ℕ → ℕ → List Record → List Record
arrived s r = put_by (placed_by s.event s.packet s.outcome) r

-- How an event that is accepted and no arrival moves the queues. A serving takes the first of its worker's queue, and a
-- restart empties those of its node.
abbrev pub settled_by : Event → ℕ → ℕ → List Record → List Record
settled_by (Install m v) n w q = q
settled_by (Arrive m k marks) n w q = q
settled_by (Serve m u v refused) n w q = only_at m u (drop 1) n w q
settled_by (Restart m) n w q = if m == n then [] else q

abbrev pub settled : LogEntry → ℕ → ℕ → List Record → List Record
settled s n w q = if accepted s.outcome then settled_by s.event n w q else q

-- what such an event takes out
abbrev pub taken_by : Event → List (List Record) → Option Record
taken_by (Install n v) qs = None
taken_by (Arrive n k marks) qs = None
taken_by (Serve n w v refused) qs = slice_get (queue_at qs n w) 0
taken_by (Restart n) qs = None

abbrev pub taken_out : LogEntry → List (List Record) → Option Record
taken_out s qs = if accepted s.outcome then taken_by s.event qs else None

-- one queue changed, by its place
abbrev pub changed_at : List (List Record) → Option ℕ → (List Record → List Record) → List (List Record)
changed_at qs None change = qs
changed_at qs (Some place) change = slice_set qs place (change (slice_index_or qs place []))

abbrev pub first_at : List (List Record) → Option ℕ → Option Record
first_at qs None = None
first_at qs (Some place) = slice_get (slice_index_or qs place []) 0

-- so many queues emptied, from a place on
abbrev pub emptied : ℕ → ℕ → List (List Record) → List (List Record)
emptied first zero qs = qs
emptied first (suc count) qs = slice_set (emptied first count qs) (first + count) []

-- a worker's queue is there, and nothing waits in it
abbrev pub is_free : List (List Record) → ℕ → ℕ → Bool
is_free qs n w = (nat_lt w 16 && nat_lt (n * 16 + w) (length qs)) && length (slice_index_or qs (n * 16 + w) []) == 0

-- the node and the worker whose queue an event takes a packet out of
abbrev pub serving_on : Event → Option (ℕ × ℕ)
serving_on (Install n v) = None
serving_on (Arrive n k marks) = None
serving_on (Serve n w v refused) = Some (n, w)
serving_on (Restart n) = None

abbrev pub taken_on : LogEntry → Option (ℕ × ℕ)
taken_on s = if accepted s.outcome then serving_on s.event else None

-- whether a packet that is placed there waits alone, and is taken out there
abbrev pub alone_on : Option (ℕ × ℕ) → Option (ℕ × ℕ) → List (List Record) → Bool
alone_on None on qs = false
alone_on (Some at) None qs = false
alone_on (Some at) (Some on) qs = (at.0 == on.0 && at.1 == on.1) && is_free qs at.0 at.1

-- whether the packet of an arrival waits alone, and the event after it takes it out
abbrev pub passes : LogEntry → LogEntry → List (List Record) → Bool
passes s t qs = alone_on (placed_by s.event s.packet s.outcome) (taken_on t) qs
