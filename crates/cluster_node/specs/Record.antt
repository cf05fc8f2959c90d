-- The outcome of each event, read off the record of all events of its node before it. A record has the newest in front.
use Rattle.std.specs.Prelude.{◌≡◌, ℕ, ◌+◌, ◌-◌, ◌%◌, ◌<◌, ◌==◌, Bool, true, false, List, [], ◌∷◌, length, Option, Some, None, if◌then◌else◌, nat_lt}
use Rattle.std.specs.Prelude.{slice_get, find}
use Rattle.std.specs.List.{list_any}
use Rattle.five_tuple.specs.declared.Flow.{Flow}
use Rattle.forwarder.specs.declared.Choice.{Choice}
use Rattle.forwarder.specs.declared.Choice.TheVariants as choices
use Rattle.forwarder.specs.Forwarding.{unused}
use Rattle.forwarder.specs.Serving.{Pick, ups_in}
use Rattle.selection.specs.Readied.{Readied}
use Rattle.cluster_node.specs.declared.serving.Item.{Item}
use Rattle.cluster_node.specs.declared.serving.Taken.{Taken}
use Rattle.cluster_node.specs.declared.serving.Taken.TheVariants as takings
use Rattle.cluster_node.specs.WorkerView.{WorkerView}
use Rattle.cluster_node.specs.Book.{Line, put, took, next_item, taken, Stands}
use Rattle.steering.specs.Steering.{home_of, refuses, place_for}
use Rattle.steering.specs.declared.Placed.{Placed as Placing}
use Rattle.steering.specs.declared.Placed.TheVariants as placings
use Rattle.cluster_node.specs.Rules.{Rules}
use Rattle.cluster_node.specs.declared.events.LogEntry.{LogEntry}
use Rattle.cluster_node.specs.NodeView.{NodeView}
use Rattle.cluster_node.specs.declared.packets.Packet.{Packet}
use Rattle.cluster_node.specs.declared.packets.Packet.TheVariants.{Good, Bad}
use Rattle.cluster_node.specs.declared.events.Event.{Event}
use Rattle.cluster_node.specs.declared.events.Event.TheVariants.{Install, Arrive, Serve, Restart}
use Rattle.cluster_node.specs.declared.outcomes.Outcome.{Outcome}
use Rattle.cluster_node.specs.declared.outcomes.Outcome.TheVariants.{Installed, Placed, Forward, Dropped, Restarted, Refused}
use Rattle.cluster_node.specs.declared.outcomes.Reason.TheVariants.{NoWorker, NoPacket, UnknownVersion, NotNewer, Idle, VersionRange}
use Rattle.cluster_node.specs.declared.outcomes.Cause.TheVariants.{NoService, NoBackend, NoVersion, RingsFull}

abbrev pub accepted : Outcome → Bool
accepted Installed = true
accepted (Placed w f) = true
accepted (Forward n w k x b o) = true
accepted (Dropped k c) = true
accepted (Restarted l) = true
accepted (Refused r) = false

-- the versions installed, the newest in front
abbrev pub installed_by : Event → Outcome → List ℕ → List ℕ
installed_by (Install n v) o vs = if accepted o then v ∷ vs else vs
installed_by (Arrive n k marks) o vs = vs
installed_by (Serve n w v r) o vs = vs
installed_by (Restart n) o vs = vs

abbrev pub installed_of : List LogEntry → List ℕ
installed_of [] = []
installed_of (s ∷ past) = installed_by s.event s.outcome (installed_of past)

-- the version installed last, 0 where there is none
abbrev pub newest_by : Event → Outcome → ℕ → ℕ
newest_by (Install n v) o newest = if accepted o then v else newest
newest_by (Arrive n k marks) o newest = newest
newest_by (Serve n w v r) o newest = newest
newest_by (Restart n) o newest = newest

abbrev pub newest_of : List LogEntry → ℕ
newest_of [] = 0
newest_of (s ∷ past) = newest_by s.event s.outcome (newest_of past)

-- how many steered arrivals of this life had a home that refused
abbrev pub refused_home : Rules → ℕ → List Bool → Option Packet → ℕ → ℕ
refused_home rules newest marks None c = c
refused_home rules newest marks (Some (Bad e)) c = c
refused_home rules newest marks (Some (Good x l t)) c =
    if newest == 0 then c else if refuses marks (home_of rules.plain rules.workers x) then c + 1 else c

abbrev pub refusals_by : Rules → ℕ → Event → Option Packet → Outcome → ℕ → ℕ
refusals_by rules newest (Install n v) p o c = c
refusals_by rules newest (Arrive n k marks) p o c = refused_home rules newest marks p c
refusals_by rules newest (Serve n w v r) p o c = c
refusals_by rules newest (Restart n) p o c = if accepted o then 0 else c

abbrev pub refusals_of : Rules → List LogEntry → ℕ
refusals_of rules [] = 0
refusals_of rules (s ∷ past) = refusals_by rules (newest_of past) s.event s.packet s.outcome (refusals_of rules past)

-- a worker's lines in this life
abbrev pub placed_line : ℕ → ℕ → Flow → ℕ → Outcome → List Line → List Line
placed_line w k x t (Placed u f) ls = if u == w then put (record { packet = k; flow = x; at = t; floor = f }) ∷ ls else ls
placed_line w k x t Installed ls = ls
placed_line w k x t (Forward n u j y b o) ls = ls
placed_line w k x t (Dropped j c) ls = ls
placed_line w k x t (Restarted l) ls = ls
placed_line w k x t (Refused r) ls = ls

abbrev pub arrived_line : ℕ → ℕ → Option Packet → Outcome → List Line → List Line
arrived_line w k None o ls = ls
arrived_line w k (Some (Bad c)) o ls = ls
arrived_line w k (Some (Good x l t)) o ls = placed_line w k x t o ls

abbrev pub line_by : ℕ → Event → Option Packet → Outcome → List Line → List Line
line_by w (Install n v) x o ls = ls
line_by w (Arrive n k marks) x o ls = arrived_line w k x o ls
line_by w (Serve n u v r) x o ls = if u == w then (if accepted o then took v r ∷ ls else ls) else ls
line_by w (Restart n) x o ls = if accepted o then [] else ls

abbrev pub lines_of : ℕ → List LogEntry → List Line
lines_of w [] = []
lines_of w (s ∷ past) = line_by w s.event s.packet s.outcome (lines_of w past)

-- how many packets were placed in this life, and how many servings there were
abbrev pub more_placed : Outcome → ℕ → ℕ
more_placed (Placed w f) c = c + 1
more_placed Installed c = c
more_placed (Forward n w k x b o) c = c
more_placed (Dropped k e) c = c
more_placed (Restarted l) c = c
more_placed (Refused r) c = c

abbrev pub placed_by : Event → Outcome → ℕ → ℕ
placed_by (Install n v) o c = c
placed_by (Arrive n k marks) o c = more_placed o c
placed_by (Serve n w v r) o c = c
placed_by (Restart n) o c = if accepted o then 0 else c

abbrev pub placed_count : List LogEntry → ℕ
placed_count [] = 0
placed_count (s ∷ past) = placed_by s.event s.outcome (placed_count past)

abbrev pub served_by : Event → Outcome → ℕ → ℕ
served_by (Install n v) o c = c
served_by (Arrive n k marks) o c = c
served_by (Serve n w v r) o c = if accepted o then c + 1 else c
served_by (Restart n) o c = if accepted o then 0 else c

abbrev pub served_count : List LogEntry → ℕ
served_count [] = 0
served_count (s ∷ past) = served_by s.event s.outcome (served_count past)

abbrev pub of_choice : ℕ → ℕ → Item → Choice → Outcome
of_choice n w i (choices.Forward b o) = Forward n w i.packet i.flow b o
of_choice n w i choices.NoService = Dropped i.packet NoService
of_choice n w i choices.NoBackend = Dropped i.packet NoBackend

abbrev pub of_taken : ℕ → ℕ → Taken → Outcome
of_taken n w takings.Idle = Refused Idle
of_taken n w takings.Behind = Refused VersionRange
of_taken n w (takings.Done i c) = of_choice n w i c

-- the outcome of an installation
abbrev pub install_verdict : Bool → ℕ → ℕ → Outcome
install_verdict known newest v =
    if known then (if nat_lt newest v then Installed else Refused NotNewer) else Refused UnknownVersion

-- the outcome of an arrival
abbrev pub steered : ℕ → ℕ → Placing → Outcome
steered newest k placings.RingsFull = Dropped k RingsFull
steered newest k (placings.Worker w) = Placed w newest

abbrev pub arrive_verdict : Rules → ℕ → ℕ → ℕ → List Bool → Option Packet → Outcome
arrive_verdict rules newest cursor k marks None = Refused NoPacket
arrive_verdict rules newest cursor k marks (Some (Bad c)) = Dropped k c
arrive_verdict rules newest cursor k marks (Some (Good x l t)) =
    if newest == 0 then Dropped k NoVersion
    else steered newest k (place_for marks rules.workers (home_of rules.plain rules.workers x) cursor)

-- the outcome of a serving by the versions installed on the node and the worker's own lines, and nothing else
abbrev pub by_queue : Rules → List ℕ → List Line → Option Item → ℕ → ℕ → ℕ → Bool → Outcome
by_queue rules installed ls None n w v r = Refused Idle
by_queue rules installed ls (Some i) n w v r =
    if list_any (λ u. u == v) installed then of_taken n w (taken rules ls v r) else Refused UnknownVersion

abbrev pub by_lines : Rules → List ℕ → List Line → ℕ → ℕ → ℕ → Bool → Outcome
by_lines rules installed ls n w v r =
    if nat_lt w rules.workers then by_queue rules installed ls (next_item ls) n w v r else Refused NoWorker

abbrev pub serve_verdict : Rules → List LogEntry → ℕ → ℕ → ℕ → Bool → Outcome
serve_verdict rules past n w v r = by_lines rules (installed_of past) (lines_of w past) n w v r

-- the outcome of an event after all that was said of its node before
abbrev pub node_verdict : Rules → List LogEntry → Event → Option Packet → Outcome
node_verdict rules past (Install n v) x = install_verdict (rules.known v) (newest_of past) v
node_verdict rules past (Arrive n k marks) x = arrive_verdict rules (newest_of past) (refusals_of rules past % rules.workers) k marks x
node_verdict rules past (Serve n w v r) x = serve_verdict rules past n w v r
node_verdict rules past (Restart n) x = Restarted (placed_count past - served_count past)

-- how many packets wait
abbrev pub waits : List WorkerView → ℕ
waits [] = 0
waits (u ∷ us) = length u.queue + waits us

-- how many packets wait at one
abbrev pub waiting_at : Option WorkerView → ℕ
waiting_at None = 0
waiting_at (Some u) = length u.queue

-- the prepared version of a number
abbrev pub prepared_at : {S : Type 0} → ℕ → List (Readied S) → Option (Readied S)
prepared_at v ps = find (λ p. p.number == v) ps

-- a version was prepared, by the scheme and for the size that the rules have, and with their candidates
pub record IsPrepared {S : Type 0} (pick_of : S → ℕ → Pick) (rules : Rules) (ps : List (Readied S)) (v : ℕ) : Type 0 where
  pub version : Readied S
  pub found : prepared_at v ps ≡ Some version
  pub number : version.number ≡ v
  pub pick : pick_of version.scheme version.size ≡ rules.pick
  pub ups : (x : Flow) → ups_in version x ≡ rules.ups v x

-- so were all versions that were installed
abbrev pub ArePrepared : {S : Type 0} → (S → ℕ → Pick) → Rules → List (Readied S) → List ℕ → Type 0
ArePrepared pick_of rules ps installed = (v : ℕ) → list_any (λ u. u == v) installed ≡ true → IsPrepared pick_of rules ps v

-- whether the catalogue has the version that an installation names
abbrev pub IsKnown : Rules → Event → Bool → Type 0
IsKnown rules (Install n v) b = rules.known v ≡ b
IsKnown rules (Arrive n k marks) b = Unit {0}
IsKnown rules (Serve n w v r) b = Unit {0}
IsKnown rules (Restart n) b = Unit {0}

-- a node represents its record
pub record NodeStands (rules : Rules) (past : List LogEntry) (n : NodeView) : Type 0 where
  pub some : 0 < rules.workers
  pub newest : n.newest ≡ newest_of past
  pub installed : n.installed ≡ installed_of past
  pub cursor : n.cursor ≡ refusals_of rules past % rules.workers
  pub count : length n.workers ≡ rules.workers
  pub waiting : waits n.workers + served_count past ≡ placed_count past
  pub each : (w : ℕ) (u : WorkerView) → slice_get n.workers w ≡ Some u → Stands rules (lines_of w past) u

abbrev pub node_say : Rules → List LogEntry → Event → Option Packet → LogEntry
node_say rules past e x = record { event = e; packet = x; outcome = node_verdict rules past e x }

-- an outcome is what the record says, and the node represents the record with it
abbrev pub NodeGoes : Rules → List LogEntry → Event → Option Packet → Outcome → NodeView → Type 0
NodeGoes rules past e x o n = (o ≡ node_verdict rules past e x) × NodeStands rules (node_say rules past e x ∷ past) n

-- a worker that has done nothing
abbrev pub fresh : ℕ → Option ℕ → WorkerView
fresh capacity idle = record { queue = []; used = 0; forwarding = unused capacity idle }

-- a worker that forgot all
abbrev pub cleared : WorkerView → WorkerView
cleared u = fresh u.forwarding.capacity u.forwarding.idle

abbrev pub fresh_node : Rules → List WorkerView → NodeView
fresh_node rules us = record { newest = 0; installed = []; cursor = 0; workers = us }
