-- What the nodes of a cluster send are packets that were offered.
use Rattle.std.proofs.Common.{◌≡◌, ◌<◌, ℕ, zero, suc, Bool, true, false, List, [], ◌∷◌, ◌++◌, Option, Some, None, refl, sym, ◌∙◌, subst}
use Rattle.std.specs.Prelude.{◌==◌, ◌||◌, ◌%◌, if◌then◌else◌, nat_lt, slice_get}
use Rattle.std.specs.List.{list_any}
use Rattle.five_tuple.specs.declared.Flow.{Flow}
use Rattle.forwarder.specs.declared.Choice.{Choice}
use Rattle.forwarder.specs.declared.Choice.TheVariants as choices
use Rattle.steering.specs.declared.Placed.{Placed as Placing}
use Rattle.steering.specs.declared.Placed.TheVariants as placings
use Rattle.steering.specs.Steering.{home_of, place_for}
use Rattle.cluster_node.specs.Rules.{Rules}
use Rattle.cluster_node.specs.declared.serving.Item.{Item}
use Rattle.cluster_node.specs.declared.serving.Taken.TheVariants as takings
use Rattle.cluster_node.specs.declared.packets.Packet.{Packet}
use Rattle.cluster_node.specs.declared.packets.Packet.TheVariants.{Good, Bad}
use Rattle.cluster_node.specs.declared.events.Event.{Event}
use Rattle.cluster_node.specs.declared.events.Event.TheVariants.{Install, Arrive, Serve, Restart}
use Rattle.cluster_node.specs.declared.events.LogEntry.{LogEntry}
use Rattle.cluster_node.specs.declared.outcomes.Outcome.{Outcome}
use Rattle.cluster_node.specs.declared.outcomes.Outcome.TheVariants.{Installed, Placed, Forward, Dropped, Restarted, Refused}
use Rattle.cluster_node.specs.declared.outcomes.Reason.TheVariants.{NoNode, NoWorker, UnknownVersion, NotNewer}
use Rattle.cluster_node.specs.declared.outcomes.Cause.TheVariants.{NoVersion}
use Rattle.cluster_node.specs.Book.{Line, put, took, placed, taken_count, next_item, greatest_used, taken_of, told_next}
use Rattle.cluster_node.specs.Record.{accepted, placed_line, arrived_line, line_by, lines_of, of_taken, of_choice, steered, arrive_verdict, by_queue, serve_verdict, node_verdict, installed_of, newest_of, refusals_of}
use Rattle.cluster_node.specs.Records.{node_of, of_node}
use Rattle.cluster_core.specs.Runs.{verdict, verdicts, packet_of, say}

-- an arrival names a packet below a number
abbrev pub ArrivesBelow : ℕ → Event → Type 0
ArrivesBelow m (Install n v) = Unit {0}
ArrivesBelow m (Arrive n k marks) = k < m
ArrivesBelow m (Serve n w v r) = Unit {0}
ArrivesBelow m (Restart n) = Unit {0}

abbrev pub AllArriveBelow : ℕ → List Event → Type 0
AllArriveBelow m [] = Unit {0}
AllArriveBelow m (e ∷ es) = ArrivesBelow m e × AllArriveBelow m es

-- what is sent is a packet below a number
abbrev pub IsBelow : ℕ → Outcome → Type 0
IsBelow m Installed = Unit {0}
IsBelow m (Placed w f) = Unit {0}
IsBelow m (Forward n w k x b v) = k < m
IsBelow m (Dropped k c) = Unit {0}
IsBelow m (Restarted l) = Unit {0}
IsBelow m (Refused r) = Unit {0}

abbrev pub AreBelow : ℕ → List Outcome → Type 0
AreBelow m [] = Unit {0}
AreBelow m (o ∷ os) = IsBelow m o × AreBelow m os

abbrev pub RecordBelow : ℕ → List LogEntry → Type 0
RecordBelow m [] = Unit {0}
RecordBelow m (s ∷ past) = ArrivesBelow m s.event × RecordBelow m past

abbrev pub LinesBelow : ℕ → List Line → Type 0
LinesBelow m [] = Unit {0}
LinesBelow m (put i ∷ ls) = (i.packet < m) × LinesBelow m ls
LinesBelow m (took v r ∷ ls) = LinesBelow m ls

abbrev pub ItemsBelow : ℕ → List Item → Type 0
ItemsBelow m [] = Unit {0}
ItemsBelow m (i ∷ is) = (i.packet < m) × ItemsBelow m is

module _ (m : ℕ) where
  node_below : (n : ℕ) (past : List LogEntry) → RecordBelow m past → RecordBelow m (of_node n past)
  node_below n [] h = tt
  node_below n (s ∷ past) h = go (node_of s.event == n) (node_below n past h.1)
    where
      go : (b : Bool) → RecordBelow m (of_node n past) → RecordBelow m (if b then s ∷ of_node n past else of_node n past)
      go true k = (h.0, k)
      go false k = k

  placed_below : (w k : ℕ) (x : Flow) (t : ℕ) (o : Outcome) (ls : List Line) → k < m → LinesBelow m ls → LinesBelow m (placed_line w k x t o ls)
  placed_below w k x t (Placed u f) ls lt h = go (u == w)
    where
      go : (b : Bool) → LinesBelow m (if b then put (record { packet = k; flow = x; at = t; floor = f }) ∷ ls else ls)
      go true = (lt, h)
      go false = h
  placed_below w k x t Installed ls lt h = h
  placed_below w k x t (Forward n u j y b o) ls lt h = h
  placed_below w k x t (Dropped j c) ls lt h = h
  placed_below w k x t (Restarted l) ls lt h = h
  placed_below w k x t (Refused r) ls lt h = h

  arrived_below : (w k : ℕ) (p : Option Packet) (o : Outcome) (ls : List Line) → k < m → LinesBelow m ls → LinesBelow m (arrived_line w k p o ls)
  arrived_below w k None o ls lt h = h
  arrived_below w k (Some (Bad c)) o ls lt h = h
  arrived_below w k (Some (Good x l t)) o ls lt h = placed_below w k x t o ls lt h

  line_below : (w : ℕ) (e : Event) (p : Option Packet) (o : Outcome) (ls : List Line) → ArrivesBelow m e → LinesBelow m ls → LinesBelow m (line_by w e p o ls)
  line_below w (Install n v) p o ls lt h = h
  line_below w (Arrive n k marks) p o ls lt h = arrived_below w k p o ls lt h
  line_below w (Serve n u v r) p o ls lt h = go (u == w) (accepted o)
    where
      go : (b c : Bool) → LinesBelow m (if b then (if c then took v r ∷ ls else ls) else ls)
      go true true = h
      go true false = h
      go false c = h
  line_below w (Restart n) p o ls lt h = go (accepted o)
    where
      go : (b : Bool) → LinesBelow m (if b then [] else ls)
      go true = tt
      go false = h

  lines_below : (w : ℕ) (past : List LogEntry) → RecordBelow m past → LinesBelow m (lines_of w past)
  lines_below w [] h = tt
  lines_below w (s ∷ past) h = line_below w s.event s.packet s.outcome (lines_of w past) h.0 (lines_below w past h.1)

  items_push : (is : List Item) (i : Item) → ItemsBelow m is → i.packet < m → ItemsBelow m (is ++ i ∷ [])
  items_push [] i h lt = (lt, tt)
  items_push (j ∷ is) i h lt = (h.0, items_push is i h.1 lt)

  items_below : (ls : List Line) → LinesBelow m ls → ItemsBelow m (placed ls)
  items_below [] h = tt
  items_below (put i ∷ ls) h = items_push (placed ls) i (items_below ls h.1) h.0
  items_below (took v r ∷ ls) h = items_below ls h

  item_below : (is : List Item) (k : ℕ) (i : Item) → ItemsBelow m is → slice_get is k ≡ Some i → i.packet < m
  item_below [] k i h e = absurd (cc)
  item_below (j ∷ is) zero i h e = let same : j ≡ i = cc in subst (λ (x : Item). x.packet < m) same h.0
  item_below (j ∷ is) (suc k) i h e = item_below is k i h.1 e

  choice_below : (n w : ℕ) (i : Item) (c : Choice) → i.packet < m → IsBelow m (of_choice n w i c)
  choice_below n w i (choices.Forward b o) lt = lt
  choice_below n w i choices.NoService lt = tt
  choice_below n w i choices.NoBackend lt = tt

  taken_below : (rules : Rules) (ls : List Line) (o : Option Item) (n w v : ℕ) (r : Bool) → ((i : Item) → o ≡ Some i → i.packet < m) → IsBelow m (of_taken n w (taken_of rules ls o v r))
  taken_below rules ls None n w v r h = tt
  taken_below rules ls (Some i) n w v r h = go (nat_lt v i.floor) (nat_lt v (greatest_used ls))
    where
      go : (b c : Bool) → IsBelow m (of_taken n w (if b || c then takings.Behind else takings.Done i (told_next rules ls i v r).choice))
      go true c = tt
      go false true = tt
      go false false = choice_below n w i (told_next rules ls i v r).choice (h i refl)

  queue_below : (rules : Rules) (installed : List ℕ) (ls : List Line) (o : Option Item) (n w v : ℕ) (r : Bool) → next_item ls ≡ o → ((i : Item) → o ≡ Some i → i.packet < m) → IsBelow m (by_queue rules installed ls o n w v r)
  queue_below rules installed ls None n w v r e h = tt
  queue_below rules installed ls (Some i) n w v r e h = go (list_any (λ u. u == v) installed)
    where
      go : (b : Bool) → IsBelow m (if b then of_taken n w (taken_of rules ls (next_item ls) v r) else Refused UnknownVersion)
      go true = taken_below rules ls (next_item ls) n w v r (λ j k. h j (sym e ∙ k))
      go false = tt

  serve_below : (rules : Rules) (past : List LogEntry) (n w v : ℕ) (r : Bool) → RecordBelow m past → IsBelow m (serve_verdict rules past n w v r)
  serve_below rules past n w v r h = go (nat_lt w rules.workers)
    where
      go : (b : Bool) → IsBelow m (if b then by_queue rules (installed_of past) (lines_of w past) (next_item (lines_of w past)) n w v r else Refused NoWorker)
      go true =
          queue_below rules (installed_of past) (lines_of w past) (next_item (lines_of w past)) n w v r refl
          (λ i e. item_below (placed (lines_of w past)) (taken_count (lines_of w past)) i (items_below (lines_of w past) (lines_below w past h)) e)
      go false = tt

  install_below : (known newer : Bool) → IsBelow m (if known then (if newer then Installed else Refused NotNewer) else Refused UnknownVersion)
  install_below true true = tt
  install_below true false = tt
  install_below false newer = tt

  steered_below : (newest k : ℕ) (p : Placing) → IsBelow m (steered newest k p)
  steered_below newest k placings.RingsFull = tt
  steered_below newest k (placings.Worker w) = tt

  arrive_below : (rules : Rules) (newest cursor k : ℕ) (marks : List Bool) (p : Option Packet) → IsBelow m (arrive_verdict rules newest cursor k marks p)
  arrive_below rules newest cursor k marks None = tt
  arrive_below rules newest cursor k marks (Some (Bad c)) = tt
  arrive_below rules newest cursor k marks (Some (Good x l t)) = go (newest == 0)
    where
      go : (b : Bool) → IsBelow m (if b then Dropped k NoVersion else steered newest k (place_for marks rules.workers (home_of rules.plain rules.workers x) cursor))
      go true = tt
      go false = steered_below newest k (place_for marks rules.workers (home_of rules.plain rules.workers x) cursor)

  event_below : (rules : Rules) (past : List LogEntry) (e : Event) (p : Option Packet) → RecordBelow m past → IsBelow m (node_verdict rules past e p)
  event_below rules past (Install n v) p h = install_below (rules.known v) (nat_lt (newest_of past) v)
  event_below rules past (Arrive n k marks) p h = arrive_below rules (newest_of past) (refusals_of rules past % rules.workers) k marks p
  event_below rules past (Serve n w v r) p h = serve_below rules past n w v r h
  event_below rules past (Restart n) p h = tt

  verdict_below : (rules : Rules) (past : List LogEntry) (e : Event) (p : Option Packet) → RecordBelow m past → IsBelow m (verdict rules past e p)
  verdict_below rules past e p h = go (nat_lt (node_of e) rules.nodes)
    where
      go : (b : Bool) → IsBelow m (if b then node_verdict rules (of_node (node_of e) past) e p else Refused NoNode)
      go true = event_below rules (of_node (node_of e) past) e p (node_below (node_of e) past h)
      go false = tt

  -- where no arrival names another packet, none is sent
  pub verdicts_below : (rules : Rules) (past : List LogEntry) (packets : List Packet) (es : List Event) → RecordBelow m past → AllArriveBelow m es → AreBelow m (verdicts rules past packets es)
  verdicts_below rules past packets [] h all = tt
  verdicts_below rules past packets (e ∷ es) h all = (
    verdict_below rules past e (packet_of packets e) h,
    verdicts_below rules (say rules past e (packet_of packets e) ∷ past) packets es (all.0, h) all.1,
  )
