-- What came into the queues of a node is what went out and what waits.
use Rattle.std.proofs.Common.{◌≡◌, ℕ, ◌+◌, ◌%◌, Bool, true, false, List, [], ◌∷◌, ◌++◌, zero, suc, Option, Some, None, refl, ap, arith}
use Rattle.std.specs.Prelude.{slice_get, slice_set, ◌==◌, nat_lt, if◌then◌else◌}
use Rattle.std.specs.List.{list_any}
use Rattle.std.proofs.lemmas.Bool.{false≢true}
use Rattle.forwarder.specs.declared.Choice.{Choice}
use Rattle.forwarder.specs.declared.Choice.TheVariants as choices
use Rattle.cluster_node.specs.declared.serving.Item.{Item}
use Rattle.cluster_node.specs.declared.serving.Taken.{Taken}
use Rattle.cluster_node.specs.declared.serving.Taken.TheVariants as takings
use Rattle.steering.specs.declared.Placed.{Placed as Placing}
use Rattle.steering.specs.declared.Placed.TheVariants as placings
use Rattle.cluster_node.specs.Book.{Line, next_item, taken}
use Rattle.steering.specs.Steering.{home_of, place_for}
use Rattle.cluster_node.specs.NodeView.{NodeView}
use Rattle.cluster_node.specs.declared.packets.Packet.{Packet}
use Rattle.cluster_node.specs.declared.packets.Packet.TheVariants.{Good, Bad}
use Rattle.cluster_node.specs.declared.events.Event.{Event}
use Rattle.cluster_node.specs.declared.events.Event.TheVariants.{Install, Arrive, Serve, Restart}
use Rattle.cluster_node.specs.declared.outcomes.Outcome.{Outcome}
use Rattle.cluster_node.specs.declared.outcomes.Outcome.TheVariants.{Installed, Dropped, Refused}
use Rattle.cluster_node.specs.declared.outcomes.Reason.TheVariants.{NoWorker, UnknownVersion, NotNewer}
use Rattle.cluster_node.specs.declared.outcomes.Cause.{Cause}
use Rattle.cluster_node.specs.declared.outcomes.Cause.TheVariants.{NotIpv4, Truncated, BadHeader, BadChecksum, Fragment, NotTcpUdp, BadTransport, TooLarge, NoService, NoBackend, NoVersion, RingsFull, LostAtRestart}
use Rattle.cluster_node.specs.Rules.{Rules}
use Rattle.cluster_node.specs.declared.events.LogEntry.{LogEntry}
use Rattle.cluster_node.specs.Record.{accepted, lines_of, of_taken, of_choice, install_verdict, arrive_verdict, steered, serve_verdict, node_verdict, newest_of, refusals_of, installed_of, placed_count, served_count, placed_by, served_by, waits, by_queue}
use Rattle.cluster_core.specs.Runs.{waiting_in}
use Rattle.cluster_core.specs.Totals.{came, went, came_all, went_all}
use Rattle.cluster_node.specs.Records.{WasRead, of_reading}

pub reading_not_serving : (k : ℕ) (c : Cause) → of_reading c ≡ true → went (Dropped k c) ≡ 0
reading_not_serving k NotIpv4 h = refl
reading_not_serving k Truncated h = refl
reading_not_serving k BadHeader h = refl
reading_not_serving k BadChecksum h = refl
reading_not_serving k Fragment h = refl
reading_not_serving k NotTcpUdp h = refl
reading_not_serving k BadTransport h = refl
reading_not_serving k TooLarge h = refl
reading_not_serving k NoService h = absurd (false≢true h)
reading_not_serving k NoBackend h = absurd (false≢true h)
reading_not_serving k NoVersion h = refl
reading_not_serving k RingsFull h = refl
reading_not_serving k LostAtRestart h = refl

-- a serving takes one packet out exactly where it is accepted
abbrev pub TakesOne : Outcome → Type 0
TakesOne o = (went o ≡ (if accepted o then 1 else 0)) × (came o ≡ 0)

choice_one : (n w : ℕ) (i : Item) (c : Choice) → TakesOne (of_choice n w i c)
choice_one n w i (choices.Forward b o) = (refl, refl)
choice_one n w i choices.NoService = (refl, refl)
choice_one n w i choices.NoBackend = (refl, refl)

taken_one : (n w : ℕ) (t : Taken) → TakesOne (of_taken n w t)
taken_one n w takings.Idle = (refl, refl)
taken_one n w takings.Behind = (refl, refl)
taken_one n w (takings.Done i c) = choice_one n w i c

if_one : (b : Bool) (o q : Outcome) → TakesOne o → TakesOne q → TakesOne (if b then o else q)
if_one true o q h k = h
if_one false o q h k = k

queue_one : (rules : Rules) (installed : List ℕ) (ls : List Line) (o : Option Item) (n w v : ℕ) (r : Bool) → TakesOne (by_queue rules installed ls o n w v r)
queue_one rules installed ls None n w v r = (refl, refl)
queue_one rules installed ls (Some i) n w v r = if_one (list_any (λ u. u == v) installed) (of_taken n w (taken rules ls v r)) (Refused UnknownVersion) (taken_one n w (taken rules ls v r)) (refl, refl)

pub serve_one : (rules : Rules) (past : List LogEntry) (n w v : ℕ) (r : Bool) → TakesOne (serve_verdict rules past n w v r)
serve_one rules past n w v r = if_one (nat_lt w rules.workers) (by_queue rules (installed_of past) (lines_of w past) (next_item (lines_of w past)) n w v r) (Refused NoWorker) (queue_one rules (installed_of past) (lines_of w past) (next_item (lines_of w past)) n w v r) (refl, refl)

-- the queues of a node before and after
abbrev pub Moves : ℕ → ℕ → Outcome → Type 0
Moves before after o = after + went o ≡ before + came o

module _ (before after s p : ℕ) (h : before + s ≡ p) where
  install_moves : (n v : ℕ) (newest : ℕ) (known : Bool) → after + s ≡ p → Moves before after (install_verdict known newest v)
  install_moves n v newest false k = omega arith
  install_moves n v newest true k = go (nat_lt newest v)
    where
      go : (b : Bool) → Moves before after (if b then Installed else Refused NotNewer)
      go true = omega arith
      go false = omega arith

  steered_moves : (n k newest : ℕ) (marks : List Bool) (o : Placing) → after + served_by (Arrive n k marks) (steered newest k o) s ≡ placed_by (Arrive n k marks) (steered newest k o) p → Moves before after (steered newest k o)
  steered_moves n k newest marks placings.RingsFull e = omega arith
  steered_moves n k newest marks (placings.Worker w) e = omega arith

  arrive_moves : (rules : Rules) (newest cursor n k : ℕ) (marks : List Bool) (x : Option Packet) → WasRead x → after + served_by (Arrive n k marks) (arrive_verdict rules newest cursor k marks x) s ≡ placed_by (Arrive n k marks) (arrive_verdict rules newest cursor k marks x) p → Moves before after (arrive_verdict rules newest cursor k marks x)
  arrive_moves rules newest cursor n k marks None r e = omega arith
  arrive_moves rules newest cursor n k marks (Some (Bad c)) r e = omega (arith, reading_not_serving k c r)
  arrive_moves rules newest cursor n k marks (Some (Good x l t)) r e = go (newest == 0) e
    where
      go : (b : Bool) → after + s ≡ placed_by (Arrive n k marks) (if b then Dropped k NoVersion else steered newest k (place_for marks rules.workers (home_of rules.plain rules.workers x) cursor)) p → Moves before after (if b then Dropped k NoVersion else steered newest k (place_for marks rules.workers (home_of rules.plain rules.workers x) cursor))
      go true d = omega arith
      go false d = steered_moves n k newest marks (place_for marks rules.workers (home_of rules.plain rules.workers x) cursor) d

  serve_moves : (o : Outcome) → TakesOne o → after + (if accepted o then s + 1 else s) ≡ p → Moves before after o
  serve_moves o t e = go (accepted o) t.0 t.1 e
    where
      go : (b : Bool) → went o ≡ (if b then 1 else 0) → came o ≡ 0 → after + (if b then s + 1 else s) ≡ p → Moves before after o
      go true f c d = omega arith
      go false f c d = omega arith

pub moves : (rules : Rules) (had : List LogEntry) (e : Event) (x : Option Packet) (before after : ℕ) → WasRead x → before + served_count had ≡ placed_count had → after + served_by e (node_verdict rules had e x) (served_count had) ≡ placed_by e (node_verdict rules had e x) (placed_count had) → Moves before after (node_verdict rules had e x)
moves rules had (Install n v) x before after r h k = install_moves before after (served_count had) (placed_count had) h n v (newest_of had) (rules.known v) k
moves rules had (Arrive n k marks) x before after r h d = arrive_moves before after (served_count had) (placed_count had) h rules (newest_of had) (refusals_of rules had % rules.workers) n k marks x r d
moves rules had (Serve n w v f) x before after r h d = serve_moves before after (served_count had) (placed_count had) h (serve_verdict rules had n w v f) (serve_one rules had n w v f) d
moves rules had (Restart n) x before after r h d = omega arith

-- the queues of all nodes
pub waits_all_set : (ms : List NodeView) (k : ℕ) (m a : NodeView) → slice_get ms k ≡ Some m → waiting_in (slice_set ms k a) + waits m.workers ≡ waiting_in ms + waits a.workers
waits_all_set [] k m a h = absurd (cc)
waits_all_set (v ∷ ms) zero m a h = let e : v ≡ m = cc in let f : waits v.workers ≡ waits m.workers = ap (λ (x : NodeView). waits x.workers) e in omega arith
waits_all_set (v ∷ ms) (suc k) m a h = let i : waiting_in (slice_set ms k a) + waits m.workers ≡ waiting_in ms + waits a.workers = waits_all_set ms k m a h in omega arith

pub came_more : (os : List Outcome) (o : Outcome) → came_all (os ++ o ∷ []) ≡ came o + came_all os
came_more [] o = refl
came_more (q ∷ os) o = let h : came_all (os ++ o ∷ []) ≡ came o + came_all os = came_more os o in omega arith

pub went_more : (os : List Outcome) (o : Outcome) → went_all (os ++ o ∷ []) ≡ went o + went_all os
went_more [] o = refl
went_more (q ∷ os) o = let h : went_all (os ++ o ∷ []) ≡ went o + went_all os = went_more os o in omega arith
