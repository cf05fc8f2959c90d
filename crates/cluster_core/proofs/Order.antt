-- A worker serves no more than was placed on it, and what is sent is the packet that waits first.
use Rattle.std.proofs.Common.{◌≡◌, ℕ, ◌<◌, ◌≤◌, Bool, true, false, List, [], ◌∷◌, length, Option, Some, None, refl, sym, ap, ◌∙◌, subst, arith, length-append}
use Rattle.std.specs.Prelude.{◌==◌, ◌||◌, nat_lt, if◌then◌else◌}
use Rattle.std.specs.List.{list_any}
use Rattle.std.proofs.lemmas.Bool.{false≢true, eqb-true, ltb-true}
use Rattle.five_tuple.specs.declared.Flow.{Flow}
use Rattle.pool_versions.specs.declared.backend.Backend.{Backend}
use Rattle.forwarder.specs.declared.Choice.{Choice}
use Rattle.forwarder.specs.declared.Choice.TheVariants as choices
use Rattle.steering.specs.declared.Placed.{Placed as Placing}
use Rattle.steering.specs.declared.Placed.TheVariants as placings
use Rattle.steering.specs.Steering.{home_of, place_for}
use Rattle.cluster_node.specs.declared.serving.Item.{Item}
use Rattle.cluster_node.specs.declared.serving.Taken.TheVariants as takings
use Rattle.cluster_node.specs.Book.{Line, put, took, placed, taken_count, next_item, greatest_used, taken_of, told_next}
use Rattle.cluster_node.specs.declared.packets.Packet.{Packet}
use Rattle.cluster_node.specs.declared.packets.Packet.TheVariants.{Good, Bad}
use Rattle.cluster_node.specs.declared.events.Event.{Event}
use Rattle.cluster_node.specs.declared.events.Event.TheVariants.{Install, Arrive, Serve, Restart}
use Rattle.cluster_node.specs.declared.events.LogEntry.{LogEntry}
use Rattle.cluster_node.specs.declared.outcomes.Outcome.{Outcome}
use Rattle.cluster_node.specs.declared.outcomes.Outcome.TheVariants.{Installed, Placed, Forward, Dropped, Restarted, Refused}
use Rattle.cluster_node.specs.declared.outcomes.Reason.TheVariants.{NoNode, NoWorker, UnknownVersion, NotNewer}
use Rattle.cluster_node.specs.declared.outcomes.Cause.TheVariants.{NoVersion}
use Rattle.cluster_node.specs.Rules.{Rules}
use Rattle.cluster_node.specs.Record.{accepted, placed_line, arrived_line, line_by, lines_of, of_taken, of_choice, install_verdict, arrive_verdict, steered, by_queue, serve_verdict, node_verdict, newest_of, installed_of}
use Rattle.cluster_node.specs.Records.{Judged, node_of, of_node, lines_at}
use Rattle.cluster_node.proofs.Books.{drop_at}
use Rattle.cluster_core.specs.Cluster.{TakesFirst}
use Rattle.cluster_core.specs.Runs.{verdict, cluster_by}

abbrev pub Sound : List Line → Type 0
Sound ls = taken_count ls ≤ length (placed ls)

sound_put : (ls : List Line) (i : Item) → Sound ls → Sound (put i ∷ ls)
sound_put ls i h = omega (arith, length-append (placed ls) (i ∷ []))

sound_took : (ls : List Line) (v : ℕ) (r : Bool) (i : Item) → next_item ls ≡ Some i → Sound (took v r ∷ ls)
sound_took ls v r i h = (drop_at (placed ls) (taken_count ls) i h).1

sound_placed : (w k : ℕ) (x : Flow) (t : ℕ) (o : Outcome) (ls : List Line) → Sound ls → Sound (placed_line w k x t o ls)
sound_placed w k x t (Placed u f) ls h = go (u == w)
  where
    go : (b : Bool) → Sound (if b then put (record { packet = k; flow = x; at = t; floor = f }) ∷ ls else ls)
    go true = sound_put ls (record { packet = k; flow = x; at = t; floor = f }) h
    go false = h
sound_placed w k x t Installed ls h = h
sound_placed w k x t (Forward n u j y b o) ls h = h
sound_placed w k x t (Dropped j c) ls h = h
sound_placed w k x t (Restarted l) ls h = h
sound_placed w k x t (Refused r) ls h = h

sound_arrived : (w k : ℕ) (p : Option Packet) (o : Outcome) (ls : List Line) → Sound ls → Sound (arrived_line w k p o ls)
sound_arrived w k None o ls h = h
sound_arrived w k (Some (Bad c)) o ls h = h
sound_arrived w k (Some (Good x l t)) o ls h = sound_placed w k x t o ls h

-- a serving that is accepted takes a packet that waits
queue_accepted : (rules : Rules) (installed : List ℕ) (ls : List Line) (n w v : ℕ) (r : Bool) (o : Option Item) → accepted (by_queue rules installed ls o n w v r) ≡ true → (i : Item) × (o ≡ Some i)
queue_accepted rules installed ls n w v r None h = absurd (false≢true h)
queue_accepted rules installed ls n w v r (Some i) h = (i, refl)

worker_accepted : (rules : Rules) (past : List LogEntry) (n w v : ℕ) (r : Bool) (b : Bool) → accepted (if b then by_queue rules (installed_of past) (lines_of w past) (next_item (lines_of w past)) n w v r else Refused NoWorker) ≡ true → (i : Item) × (next_item (lines_of w past) ≡ Some i)
worker_accepted rules past n w v r true h = queue_accepted rules (installed_of past) (lines_of w past) n w v r (next_item (lines_of w past)) h
worker_accepted rules past n w v r false h = absurd (false≢true h)

node_accepted : (rules : Rules) (past : List LogEntry) (n w v : ℕ) (r : Bool) (b : Bool) → accepted (if b then serve_verdict rules past n w v r else Refused NoNode) ≡ true → (i : Item) × (next_item (lines_of w past) ≡ Some i)
node_accepted rules past n w v r true h = worker_accepted rules past n w v r (nat_lt w rules.workers) h
node_accepted rules past n w v r false h = absurd (false≢true h)

if_accepted : (ls : List Line) (v : ℕ) (r : Bool) (b : Bool) → Sound ls → (b ≡ true → (i : Item) × (next_item ls ≡ Some i)) → Sound (if b then took v r ∷ ls else ls)
if_accepted ls v r true h g = let i : (i : Item) × (next_item ls ≡ Some i) = g refl in sound_took ls v r i.0 i.1
if_accepted ls v r false h g = h

sound_served : (rules : Rules) (past : List LogEntry) (n u v : ℕ) (r : Bool) (p : Option Packet) (w : ℕ) → Sound (lines_of w (of_node n past)) → Sound (line_by w (Serve n u v r) p (verdict rules past (Serve n u v r) p) (lines_of w (of_node n past)))
sound_served rules past n u v r p w h = go (u == w) refl
  where
    own : u ≡ w → accepted (verdict rules past (Serve n u v r) p) ≡ true → (i : Item) × (next_item (lines_of w (of_node n past)) ≡ Some i)
    own e a = subst (λ (z : ℕ). (i : Item) × (next_item (lines_of z (of_node n past)) ≡ Some i)) e (node_accepted rules (of_node n past) n u v r (nat_lt n rules.nodes) a)

    go : (b : Bool) → (u == w) ≡ b → Sound (if b then (if accepted (verdict rules past (Serve n u v r) p) then took v r ∷ lines_of w (of_node n past) else lines_of w (of_node n past)) else lines_of w (of_node n past))
    go true e = if_accepted (lines_of w (of_node n past)) v r (accepted (verdict rules past (Serve n u v r) p)) h (own (eqb-true u w e))
    go false e = h

sound_if : (b : Bool) (ls : List Line) → Sound ls → Sound (if b then [] else ls)
sound_if true ls h = omega arith
sound_if false ls h = h

sound_line : (rules : Rules) (past : List LogEntry) (e : Event) (p : Option Packet) (w : ℕ) → Sound (lines_of w (of_node (node_of e) past)) → Sound (line_by w e p (verdict rules past e p) (lines_of w (of_node (node_of e) past)))
sound_line rules past (Install n v) p w h = h
sound_line rules past (Arrive n k marks) p w h = sound_arrived w k p (verdict rules past (Arrive n k marks) p) (lines_of w (of_node n past)) h
sound_line rules past (Serve n u v r) p w h = sound_served rules past n u v r p w h
sound_line rules past (Restart n) p w h = sound_if (accepted (verdict rules past (Restart n) p)) (lines_of w (of_node n past)) h

pub sound : (rules : Rules) (past : List LogEntry) → Judged (verdict rules) past → (n w : ℕ) → Sound (lines_at past n w)
sound rules [] j n w = omega arith
sound rules (s ∷ past) j n w = go (sound rules past j.1 n w) (node_of s.event == n) refl
  where
    own : (m : ℕ) → node_of s.event ≡ m → Sound (lines_of w (of_node m past)) → Sound (line_by w s.event s.packet s.outcome (lines_of w (of_node m past)))
    own m e = subst (λ (z : ℕ). Sound (lines_of w (of_node z past)) → Sound (line_by w s.event s.packet s.outcome (lines_of w (of_node z past)))) e
        (λ h. subst (λ (o : Outcome). Sound (line_by w s.event s.packet o (lines_of w (of_node (node_of s.event) past)))) (sym j.0) (sound_line rules past s.event s.packet w h))

    go : Sound (lines_at past n w) → (b : Bool) → (node_of s.event == n) ≡ b → Sound (lines_of w (if b then s ∷ of_node n past else of_node n past))
    go h true e = own n (eqb-true (node_of s.event) n e) h
    go h false e = h

-- what is sent, by the parts of a verdict
pub record Popped (o : Option Item) (n w m u place : ℕ) : Type 0 where
  pub item : Item
  pub first : o ≡ Some item
  pub packet : item.packet ≡ place
  pub node : n ≡ m
  pub worker : w ≡ u

module _ (m u place : ℕ) (x : Flow) (b : Backend) (o : ℕ) where
  abbrev pub Sends : Outcome → Type 0
  Sends q = q ≡ Forward m u place x b o

  not_if : (t : Bool) (p q : Outcome) → (Sends p → ⊥) → (Sends q → ⊥) → Sends (if t then p else q) → ⊥
  not_if true p q h k = h
  not_if false p q h k = k

  choice_sends : (n w : ℕ) (i : Item) (c : Choice) → Sends (of_choice n w i c) → Popped (Some i) n w m u place
  choice_sends n w i (choices.Forward d f) h = record { item = i; first = refl; packet = (let e : i.packet ≡ place = cc in e); node = (let e : n ≡ m = cc in e); worker = (let e : w ≡ u = cc in e) }
  choice_sends n w i choices.NoService h = absurd (cc)
  choice_sends n w i choices.NoBackend h = absurd (cc)

  taken_sends : (rules : Rules) (ls : List Line) (n w v : ℕ) (r : Bool) (i : Option Item) → Sends (of_taken n w (taken_of rules ls i v r)) → Popped i n w m u place
  taken_sends rules ls n w v r None h = absurd (cc)
  taken_sends rules ls n w v r (Some i) h = go (nat_lt v i.floor || nat_lt v (greatest_used ls)) h
    where
      go : (t : Bool) → Sends (of_taken n w (if t then takings.Behind else takings.Done i (told_next rules ls i v r).choice)) → Popped (Some i) n w m u place
      go true k = absurd (cc)
      go false k = choice_sends n w i (told_next rules ls i v r).choice k

  queue_sends : (rules : Rules) (installed : List ℕ) (ls : List Line) (n w v : ℕ) (r : Bool) (i : Option Item) → Sends (by_queue rules installed ls i n w v r) → Popped (next_item ls) n w m u place
  queue_sends rules installed ls n w v r None h = absurd (cc)
  queue_sends rules installed ls n w v r (Some i) h = go (list_any (λ j. j == v) installed) h
    where
      go : (t : Bool) → Sends (if t then of_taken n w (taken_of rules ls (next_item ls) v r) else Refused UnknownVersion) → Popped (next_item ls) n w m u place
      go true k = taken_sends rules ls n w v r (next_item ls) k
      go false k = absurd (cc)

  abbrev pub ServesOn : Rules → List LogEntry → ℕ → ℕ → Type 0
  ServesOn rules past n w = Popped (next_item (lines_of w past)) n w m u place × (w < rules.workers)

  serve_sends : (rules : Rules) (past : List LogEntry) (n w v : ℕ) (r : Bool) → Sends (serve_verdict rules past n w v r) → ServesOn rules past n w
  serve_sends rules past n w v r h = go (nat_lt w rules.workers) refl h
    where
      go : (t : Bool) → nat_lt w rules.workers ≡ t → Sends (if t then by_queue rules (installed_of past) (lines_of w past) (next_item (lines_of w past)) n w v r else Refused NoWorker) → ServesOn rules past n w
      go true e k = (queue_sends rules (installed_of past) (lines_of w past) n w v r (next_item (lines_of w past)) k, ltb-true w rules.workers e)
      go false e k = absurd (cc)

  install_sends : (known : Bool) (newest v : ℕ) → Sends (install_verdict known newest v) → ⊥
  install_sends false newest v h = absurd (cc)
  install_sends true newest v h = not_if (nat_lt newest v) Installed (Refused NotNewer) (λ k. absurd (cc)) (λ k. absurd (cc)) h

  steered_sends : (newest k : ℕ) (p : Placing) → Sends (steered newest k p) → ⊥
  steered_sends newest k placings.RingsFull h = absurd (cc)
  steered_sends newest k (placings.Worker w) h = absurd (cc)

  arrive_sends : (rules : Rules) (newest cursor k : ℕ) (marks : List Bool) (p : Option Packet) → Sends (arrive_verdict rules newest cursor k marks p) → ⊥
  arrive_sends rules newest cursor k marks None h = absurd (cc)
  arrive_sends rules newest cursor k marks (Some (Bad c)) h = absurd (cc)
  arrive_sends rules newest cursor k marks (Some (Good y l t)) h =
      not_if (newest == 0) (Dropped k NoVersion) (steered newest k (place_for marks rules.workers (home_of rules.plain rules.workers y) cursor)) (λ z. absurd (cc)) (steered_sends newest k (place_for marks rules.workers (home_of rules.plain rules.workers y) cursor)) h

  abbrev pub Takes : Rules → List LogEntry → Event → Type 0
  Takes rules past e = TakesFirst (cluster_by rules) past e m u place

  by_serving : (rules : Rules) (past : List LogEntry) (n w v : ℕ) (r : Bool) → n < rules.nodes → ServesOn rules (of_node n past) n w → Takes rules past (Serve n w v r)
  by_serving rules past n w v r there g = record {
    version = v;
    refused = r;
    item = g.0.item;
    event = ap (λ (z : ℕ). Serve z w v r) g.0.node ∙ ap (λ (z : ℕ). Serve m z v r) g.0.worker;
    node = subst (λ (z : ℕ). z < rules.nodes) g.0.node there;
    worker = subst (λ (z : ℕ). z < rules.workers) g.0.worker g.1;
    first = ap (λ (z : ℕ). next_item (lines_at past m z)) (sym g.0.worker) ∙ ap (λ (z : ℕ). next_item (lines_at past z w)) (sym g.0.node) ∙ g.0.first;
    packet = g.0.packet;
  }

  node_sends : (rules : Rules) (past : List LogEntry) (e : Event) (p : Option Packet) → node_of e < rules.nodes → Sends (node_verdict rules (of_node (node_of e) past) e p) → Takes rules past e
  node_sends rules past (Install n v) p there h = absurd (install_sends (rules.known v) (newest_of (of_node n past)) v h)
  node_sends rules past (Arrive n k marks) p there h = absurd (arrive_sends rules (newest_of (of_node n past)) _ k marks p h)
  node_sends rules past (Serve n w v r) p there h = by_serving rules past n w v r there (serve_sends rules (of_node n past) n w v r h)
  node_sends rules past (Restart n) p there h = absurd (cc)

  pub verdict_sends : (rules : Rules) (past : List LogEntry) (e : Event) (p : Option Packet) → Sends (verdict rules past e p) → Takes rules past e
  verdict_sends rules past e p h = go (nat_lt (node_of e) rules.nodes) refl h
    where
      go : (t : Bool) → nat_lt (node_of e) rules.nodes ≡ t → Sends (if t then node_verdict rules (of_node (node_of e) past) e p else Refused NoNode) → Takes rules past e
      go true d k = node_sends rules past e p (ltb-true (node_of e) rules.nodes d) k
      go false d k = absurd (cc)
