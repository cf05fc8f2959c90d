-- Each packet that is sent goes where the scheme sends it under its origin.
use Rattle.std.proofs.Common.{◌≡◌, ℕ, ◌%◌, Bool, true, false, List, [], ◌∷◌, zero, suc, Option, Some, None, refl, sym, ap, ◌∙◌, subst}
use Rattle.std.specs.Prelude.{slice_get, ◌==◌, ◌||◌, nat_lt, if◌then◌else◌}
use Rattle.std.specs.List.{list_any}
use Rattle.five_tuple.specs.declared.Flow.{Flow}
use Rattle.pool_versions.specs.declared.backend.Backend.{Backend}
use Rattle.forwarder.specs.declared.Choice.{Choice}
use Rattle.forwarder.specs.declared.Choice.TheVariants as choices
use Rattle.selection.specs.Candidates.{Candidates}
use Rattle.forwarder.specs.Serving.{Serving}
use Rattle.cluster_node.specs.declared.serving.Item.{Item}
use Rattle.cluster_node.specs.declared.serving.Taken.TheVariants as takings
use Rattle.cluster_node.specs.Book.{Line, put, took, next_item, serving_at, servings, serving_under, greatest_used, taken, taken_of, told_next}
use Rattle.cluster_node.specs.declared.packets.Packet.{Packet}
use Rattle.cluster_node.specs.declared.packets.Packet.TheVariants.{Good, Bad}
use Rattle.cluster_node.specs.declared.events.Event.{Event}
use Rattle.cluster_node.specs.declared.events.Event.TheVariants.{Install, Arrive, Serve, Restart}
use Rattle.cluster_node.specs.declared.outcomes.Outcome.{Outcome}
use Rattle.cluster_node.specs.declared.outcomes.Outcome.TheVariants.{Installed, Placed, Forward, Dropped, Restarted, Refused}
use Rattle.cluster_node.specs.declared.outcomes.Reason.TheVariants.{NoNode, NoWorker, UnknownVersion, NotNewer}
use Rattle.cluster_node.specs.declared.outcomes.Cause.TheVariants.{NoVersion}
use Rattle.cluster_node.specs.Rules.{Rules}
use Rattle.cluster_node.specs.declared.events.LogEntry.{LogEntry}
use Rattle.cluster_node.specs.Record.{lines_of, of_taken, of_choice, install_verdict, arrive_verdict, steered, node_verdict, newest_of, refusals_of, installed_of, by_queue}
use Rattle.steering.specs.declared.Placed.{Placed as Placing}
use Rattle.steering.specs.declared.Placed.TheVariants as placings
use Rattle.steering.specs.Steering.{home_of, place_for}
use Rattle.cluster_core.specs.Runs.{verdict, packet_of, say, verdicts}
use Rattle.cluster_node.specs.Records.{node_of, of_node}
use Rattle.cluster_core.specs.Headline.{picked, pick_under, Agreement}
use Rattle.cluster_core.specs.Explain.{send_of, PickedSend, PickedSends}
use Rattle.cluster_core.proofs.Chosen.{Up, Chosen, ChoiceOk, Coherent, choice_ok}

module _ (rules : Rules) where
  abbrev pub Ups : Up
  Ups = rules.ups

  coherent_at : (o : Option Item) (v : ℕ) (r : Bool) (ss : List Serving) → Coherent rules.pick Ups ss → Coherent rules.pick Ups (serving_at rules o v r ss)
  coherent_at None v r ss h = h
  coherent_at (Some i) v r ss h = (refl, h)

  coherent : (ls : List Line) → Coherent rules.pick Ups (servings rules ls)
  coherent [] = tt
  coherent (put i ∷ ls) = coherent ls
  coherent (took v r ∷ ls) = coherent_at (next_item ls) v r (servings rules ls) (coherent ls)

  -- what is sent goes to the pick under its origin
  abbrev pub GoesToPick : Outcome → Type 0
  GoesToPick Installed = Unit {0}
  GoesToPick (Placed w f) = Unit {0}
  GoesToPick (Forward n w k x b v) = Chosen rules.pick Ups x b v
  GoesToPick (Dropped k c) = Unit {0}
  GoesToPick (Restarted l) = Unit {0}
  GoesToPick (Refused r) = Unit {0}

  of_choice_goes : (n w : ℕ) (i : Item) (c : Choice) → ChoiceOk rules.pick Ups i.flow c → GoesToPick (of_choice n w i c)
  of_choice_goes n w i (choices.Forward b o) h = h
  of_choice_goes n w i choices.NoService h = tt
  of_choice_goes n w i choices.NoBackend h = tt

  if_goes : (b : Bool) (o q : Outcome) → GoesToPick o → GoesToPick q → GoesToPick (if b then o else q)
  if_goes true o q h k = h
  if_goes false o q h k = k

  taken_goes : (n w : ℕ) (ls : List Line) (v : ℕ) (r : Bool) (o : Option Item) → GoesToPick (of_taken n w (taken_of rules ls o v r))
  taken_goes n w ls v r None = tt
  taken_goes n w ls v r (Some i) = go (nat_lt v i.floor || nat_lt v (greatest_used ls))
    where
      go : (b : Bool) → GoesToPick (of_taken n w (if b then takings.Behind else takings.Done i (told_next rules ls i v r).choice))
      go true = tt
      go false = of_choice_goes n w i (told_next rules ls i v r).choice
          (choice_ok rules.pick Ups rules.capacity rules.idle (servings rules ls) (serving_under (rules.ups v) v i r) (coherent ls) refl)

  queue_goes : (past : List LogEntry) (n w v : ℕ) (r : Bool) (o : Option Item) → GoesToPick (by_queue rules (installed_of past) (lines_of w past) o n w v r)
  queue_goes past n w v r None = tt
  queue_goes past n w v r (Some i) = if_goes (list_any (λ u. u == v) (installed_of past)) (of_taken n w (taken rules (lines_of w past) v r)) (Refused UnknownVersion) (taken_goes n w (lines_of w past) v r (next_item (lines_of w past))) tt

  steered_goes : (newest k : ℕ) (o : Placing) → GoesToPick (steered newest k o)
  steered_goes newest k placings.RingsFull = tt
  steered_goes newest k (placings.Worker w) = tt

  arrive_pick : (newest cursor k : ℕ) (marks : List Bool) (p : Option Packet) → GoesToPick (arrive_verdict rules newest cursor k marks p)
  arrive_pick newest cursor k marks None = tt
  arrive_pick newest cursor k marks (Some (Bad c)) = tt
  arrive_pick newest cursor k marks (Some (Good x l t)) = if_goes (newest == 0) (Dropped k NoVersion) (steered newest k (place_for marks rules.workers (home_of rules.plain rules.workers x) cursor)) tt (steered_goes newest k (place_for marks rules.workers (home_of rules.plain rules.workers x) cursor))

  install_pick : (known : Bool) (newest v : ℕ) → GoesToPick (install_verdict known newest v)
  install_pick false newest v = tt
  install_pick true newest v = if_goes (nat_lt newest v) Installed (Refused NotNewer) tt tt

  node_pick : (past : List LogEntry) (e : Event) (p : Option Packet) → GoesToPick (node_verdict rules past e p)
  node_pick past (Install n v) p = install_pick (rules.known v) (newest_of past) v
  node_pick past (Arrive n k marks) p = arrive_pick (newest_of past) (refusals_of rules past % rules.workers) k marks p
  node_pick past (Serve n w v r) p = if_goes (nat_lt w rules.workers) (by_queue rules (installed_of past) (lines_of w past) (next_item (lines_of w past)) n w v r) (Refused NoWorker) (queue_goes past n w v r (next_item (lines_of w past))) tt
  node_pick past (Restart n) p = tt

  pub verdict_pick : (past : List LogEntry) (e : Event) (p : Option Packet) → GoesToPick (verdict rules past e p)
  verdict_pick past e p = if_goes (nat_lt (node_of e) rules.nodes) (node_verdict rules (of_node (node_of e) past) e p) (Refused NoNode) (node_pick (of_node (node_of e) past) e p) tt

  pub verdicts_pick : (past : List LogEntry) (packets : List Packet) (es : List Event) (k : ℕ) (o : Outcome) → slice_get (verdicts rules past packets es) k ≡ Some o → GoesToPick o
  verdicts_pick past packets [] k o h = absurd (cc)
  verdicts_pick past packets (e ∷ es) zero o h = let s : verdict rules past e (packet_of packets e) ≡ o = cc in subst (λ (q : Outcome). GoesToPick q) s (verdict_pick past e (packet_of packets e))
  verdicts_pick past packets (e ∷ es) (suc k) o h = verdicts_pick (say rules past e (packet_of packets e) ∷ past) packets es k o h

  -- the turn doesn't matter
  Steady : Type 0
  Steady = (ups : Candidates) (x : Flow) (t u : ℕ) → rules.pick ups x t ≡ rules.pick ups x u

  pick_chosen : ((ups : Candidates) (x : Flow) (t u : ℕ) → rules.pick ups x t ≡ rules.pick ups x u) → (x : Flow) (b : Backend) (v : ℕ) → Chosen rules.pick Ups x b v → pick_under rules v x ≡ Some b
  pick_chosen steady x b v c = ap (λ (o : Option Candidates). picked rules.pick x o) c.here ∙ steady c.ups x 0 c.turn ∙ c.picked

pub picked_send : (rules : Rules) → ((ups : Candidates) (x : Flow) (t u : ℕ) → rules.pick ups x t ≡ rules.pick ups x u) → (o : Outcome) → GoesToPick rules o → PickedSend rules (send_of o)
picked_send rules steady Installed h = tt
picked_send rules steady (Placed w f) h = tt
picked_send rules steady (Forward n w k x b v) h = pick_chosen rules steady x b v h
picked_send rules steady (Dropped k c) h = tt
picked_send rules steady (Restarted l) h = tt
picked_send rules steady (Refused r) h = tt

pub picked_sends : (rules : Rules) → ((ups : Candidates) (x : Flow) (t u : ℕ) → rules.pick ups x t ≡ rules.pick ups x u) → (packets : List Packet) (es : List Event) → PickedSends rules (verdicts rules [] packets es)
picked_sends rules steady packets es k o h = picked_send rules steady o (verdicts_pick rules [] packets es k o h)

-- where each packet was sent to the pick under its origin, two that were sent to different backends chose under versions that differ
pub agreement_of_picks : (rules : Rules) (outs : List Outcome) → PickedSends rules outs → Agreement rules outs
agreement_of_picks rules outs picked x b₁ b₂ v₁ v₂ s t d =
    let p : pick_under rules v₁ x ≡ Some b₁ = picked s.place (Forward s.node s.worker s.packet x b₁ v₁) s.there in
    let q : pick_under rules v₂ x ≡ Some b₂ = picked t.place (Forward t.node t.worker t.packet x b₂ v₂) t.there in
    let n : pick_under rules v₁ x ≡ pick_under rules v₂ x → ⊥ = λ e. d (let f : Some b₁ ≡ Some b₂ = sym p ∙ e ∙ q in cc) in
    (p, q, n, λ e. n (ap (λ (v : ℕ). pick_under rules v x) e))

pub agreement : (rules : Rules) → ((ups : Candidates) (x : Flow) (t u : ℕ) → rules.pick ups x t ≡ rules.pick ups x u) → (packets : List Packet) (es : List Event) → Agreement rules (verdicts rules [] packets es)
agreement rules steady packets es = agreement_of_picks rules (verdicts rules [] packets es) (picked_sends rules steady packets es)
