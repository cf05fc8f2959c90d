-- The events that a scenario's steps and its records define, step by step.
use Rattle.std.specs.Prelude.{◌≡◌, ℕ, zero, suc, ◌+◌, Bool, true, false, List, [], ◌∷◌, ◌++◌, length, take, drop, Option, Some, None, if◌then◌else◌}
use Rattle.std.specs.Prelude.{slice_get, slice_set, replicate}
use Rattle.five_tuple.specs.declared.Flow.{Flow}
use Rattle.cluster_node.specs.declared.packets.Packet.{Packet}
use Rattle.cluster_node.specs.declared.events.Event.{Event}
use Rattle.cluster_node.specs.declared.events.Event.TheVariants.{Install, Arrive, Serve, Restart}
use Rattle.cluster_node.specs.declared.events.LogEntry.{LogEntry}
use Rattle.cluster_node.specs.Records.{said, placed_on, with_told}
use Rattle.cluster_node.specs.declared.outcomes.Passed.{Passed}
use Rattle.spreader.specs.Choices.{Choice}
use Rattle.cluster_core.specs.Cluster.{Cluster, newest_on, waiting_on, flow_of}
use Rattle.event_trace.specs.declared.steps.ScenarioStep.{ScenarioStep}
use Rattle.event_trace.specs.declared.steps.ScenarioStep.TheVariants as steps
use Rattle.event_trace.specs.Trace.{Trace}

-- two spreaders choose the same
abbrev pub SameChoice : Choice → Choice → Type 0
SameChoice a b = (live : List ℕ) (flow : Option Flow) (nth : ℕ) → a live flow nth ≡ b live flow nth

-- what is fixed for a run: the cluster, the spreader's choice, the records as packets
pub record World : Type 0 where
  pub cluster : Cluster
  pub choice : Choice
  pub packets : List Packet

abbrev pub none_marked : List Bool
none_marked = false ∷ false ∷ false ∷ false ∷ false ∷ false ∷ false ∷ false ∷ false ∷ false ∷ false ∷ false ∷ false ∷ false ∷ false ∷ false ∷ []

abbrev pub marks_or : Option (List Bool) → List Bool
marks_or None = none_marked
marks_or (Some m) = m

-- the workers of the node that refuse
abbrev pub marks_at : ℕ → Trace → List Bool
marks_at n c = marks_or (slice_get c.marks n)

abbrev pub true_or : Option Bool → Bool
true_or None = false
true_or (Some b) = b

abbrev pub is_held : ℕ → Trace → Bool
is_held n c = true_or (slice_get c.held n)

-- an event was said, with its outcome
abbrev pub noted : LogEntry → Trace → Trace
noted s c = record c { past = s ∷ c.past }

-- an event, with its outcome
abbrev pub say : World → Event → Option Packet → Trace → Trace
say w e p c = record c { past = said w.cluster.judge c.past e p ∷ c.past }

-- what is reported of a packet that arrived, and of its serving where it was placed
abbrev pub with_passed : Event → Packet → (ℕ → Event) → Passed → Trace → Trace
with_passed e p serving q c = record c { past = with_told c.past e p serving q }

-- a serving under the node's newest version
unfoldable pub serve : World → ℕ → ℕ → Trace → Trace
serve w n u c = say w (Serve n u (newest_on w.cluster n c.past) false) None c

-- the serving that follows an arrival that was placed
unfoldable pub follow : World → ℕ → Option ℕ → Trace → Trace
follow w n None c = c
follow w n (Some u) c = if is_held n c then c else serve w n u c

abbrev pub arrival : ℕ → ℕ → Trace → Event
arrival n k c = Arrive n k (marks_at n c)

unfoldable pub arrive : World → ℕ → ℕ → Packet → Trace → Trace
arrive w n k p c = follow w n (placed_on (w.cluster.judge c.past (arrival n k c) (Some p))) (say w (arrival n k c) (Some p) c)

unfoldable pub route : World → ℕ → Packet → Option ℕ → Trace → Trace
route w k p None c = record c { unrouted = c.unrouted + 1 }
route w k p (Some n) c = arrive w n k p c

-- a packet is handed to the spreader
unfoldable pub deliver : World → ℕ → Packet → Trace → Trace
deliver w k p c = route w k p (w.choice c.live (flow_of p) c.nth) (record c { nth = c.nth + 1 })

-- records are read and delivered
unfoldable pub take_all : World → List Packet → Trace → Trace
take_all w [] c = c
take_all w (p ∷ ps) c = take_all w ps (deliver w c.read p (record c { read = c.read + 1 }))

unfoldable pub repeat : World → ℕ → Option Packet → Trace → Trace
repeat w k None c = record c { skipped = c.skipped + 1 }
repeat w k (Some p) c = deliver w k p c

-- a worker's waiting packets are served
unfoldable pub serve_times : World → ℕ → ℕ → ℕ → Trace → Trace
serve_times w n u zero c = c
serve_times w n u (suc m) c = serve_times w n u m (serve w n u c)

-- those of the workers from u on
unfoldable pub drain_from : World → ℕ → ℕ → ℕ → Trace → Trace
drain_from w n u zero c = c
drain_from w n u (suc m) c = drain_from w n (u + 1) m (serve_times w n u (waiting_on w.cluster n u c.past) c)

abbrev pub release : ℕ → Trace → Trace
release n c = record c { held = slice_set c.held n false }

-- the next records, or those that remain
abbrev pub next_ones : World → ℕ → Trace → List Packet
next_ones w k c = take k (drop c.read w.packets)

unfoldable pub after : World → ScenarioStep → Trace → Trace
after w (steps.Install n v) c = say w (Install n v) None c
after w (steps.Live ns) c = record c { live = ns.items }
after w (steps.Take k) c = take_all w (next_ones w k c) c
after w (steps.Lose k) c = record c { read = c.read + length (next_ones w k c); lost = c.lost + length (next_ones w k c) }
after w (steps.Again k) c = repeat w k (slice_get (take c.read w.packets) k) c
after w (steps.Full n m) c = record c { marks = slice_set c.marks n m }
after w (steps.Hold n) c = record c { held = slice_set c.held n true }
after w (steps.Drain n) c = drain_from w n 0 w.cluster.workers (release n c)
after w (steps.Restart n) c = say w (Restart n) None (release n c)
after w (steps.Stop n) c = say w (Restart n) None (release n c)

-- a step that takes records from the capture, or names one
abbrev pub names_records : ScenarioStep → Bool
names_records (steps.Install n v) = false
names_records (steps.Live ns) = false
names_records (steps.Take k) = true
names_records (steps.Lose k) = true
names_records (steps.Again k) = true
names_records (steps.Full n m) = false
names_records (steps.Hold n) = false
names_records (steps.Drain n) = false
names_records (steps.Restart n) = false
names_records (steps.Stop n) = false

-- a step that may say more than one event
abbrev pub says_many : ScenarioStep → Bool
says_many (steps.Install n v) = false
says_many (steps.Live ns) = false
says_many (steps.Take k) = true
says_many (steps.Lose k) = true
says_many (steps.Again k) = true
says_many (steps.Full n m) = false
says_many (steps.Hold n) = false
says_many (steps.Drain n) = true
says_many (steps.Restart n) = false
says_many (steps.Stop n) = false

unfoldable pub run : World → List ScenarioStep → Trace → Trace
run w [] c = c
run w (s ∷ ss) c = run w ss (after w s c)

abbrev pub world_of : Cluster → Choice → List Packet → World
world_of cluster choice packets = record { cluster = cluster; choice = choice; packets = packets }

-- the numbers below n, ascending
abbrev pub below : ℕ → List ℕ
below zero = []
below (suc n) = below n ++ n ∷ []

-- at the start all nodes are live, no worker refuses and nothing is held
abbrev pub start : ℕ → Trace
start nodes = record {
  past = [];
  read = 0;
  live = below nodes;
  marks = replicate nodes none_marked;
  held = replicate nodes false;
  nth = 0;
  unrouted = 0;
  lost = 0;
  skipped = 0;
}
