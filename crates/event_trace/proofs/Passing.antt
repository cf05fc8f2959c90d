-- A packet that comes to a node that isn't held is served at once where it is placed; at one that is held it waits.
use Rattle.std.proofs.Common.{◌≡◌, ℕ, ◌+◌, Bool, true, false, List, ◌∷◌, Option, Some, None, refl, sym, ap, ◌∙◌, subst}
use Rattle.std.specs.Prelude.{◌==◌, if◌then◌else◌, nat_lt}
use Rattle.cluster_node.specs.declared.packets.Packet.{Packet}
use Rattle.cluster_node.specs.declared.events.Event.{Event}
use Rattle.cluster_node.specs.declared.events.Event.TheVariants.{Arrive, Serve}
use Rattle.cluster_node.specs.declared.events.LogEntry.{LogEntry}
use Rattle.cluster_node.specs.declared.outcomes.Outcome.{Outcome}
use Rattle.cluster_node.specs.declared.outcomes.Passed.{Passed}
use Rattle.cluster_node.specs.declared.outcomes.Passed.TheVariants.{Unplaced, Through}
use Rattle.cluster_node.specs.Record.{newest_of}
use Rattle.cluster_node.specs.Records.{Judge, of_node, said, placed_on, AreTold}
use Rattle.cluster_core.specs.Cluster.{Cluster, newest_on, flow_of}
use Rattle.event_trace.specs.Trace.{Trace, Playing}
use Rattle.event_trace.specs.Steps.{World, marks_at, is_held, noted, say, serve, follow, arrival, arrive, route, deliver, with_passed}

-- an arrival leaves each node's newest version
newest_stays : (k : Cluster) (n i : ℕ) (marks : List Bool) (p : Packet) (past : List LogEntry) → newest_on k n (said k.judge past (Arrive n i marks) (Some p) ∷ past) ≡ newest_on k n past
unfolding newest_on
newest_stays k n i marks p past = go (n == n)
  where
    go : (b : Bool) → (if nat_lt n k.nodes then newest_of (if b then said k.judge past (Arrive n i marks) (Some p) ∷ of_node n past else of_node n past) else 0) ≡ (if nat_lt n k.nodes then newest_of (of_node n past) else 0)
    go true = refl
    go false = refl

module _ (w : World) (n i : ℕ) (p : Packet) (c : Trace) where
  abbrev pub Judged_by : Judge
  Judged_by = w.cluster.judge

  abbrev pub Come : Event
  Come = arrival n i c

  abbrev pub serving : ℕ → Event
  serving u = Serve n u (newest_on w.cluster n c.past) false

  -- what is told of a packet is its arrival, and the serving that follows
  pub passed_arrives : is_held n c ≡ false → (q : Passed) → AreTold w.cluster.judge c.past (arrival n i c) p (λ u. Serve n u (newest_on w.cluster n c.past) false) q → with_passed (arrival n i c) p (λ u. Serve n u (newest_on w.cluster n c.past) false) q c ≡ arrive w n i p c
  unfolding arrive follow serve
  passed_arrives free (Unplaced o) t =
      ap (λ (x : Outcome). let d : Trace = record c { past = record { event = Come; packet = Some p; outcome = x } ∷ c.past } in d) t.1
      ∙ ap (λ (u : Option ℕ). follow w n u (say w Come (Some p) c)) (sym t.0 ∙ ap placed_on t.1)
  passed_arrives free (Through u f o) t =
      let before : List LogEntry = said w.cluster.judge c.past Come (Some p) ∷ c.past in
      ap (λ (x : Outcome). let d : Trace = record c { past = record { event = serving u; packet = None; outcome = o } ∷ record { event = Come; packet = Some p; outcome = x } ∷ c.past } in d) t.0
      ∙ ap (λ (x : Outcome). let d : Trace = record c { past = record { event = serving u; packet = None; outcome = x } ∷ before } in d) t.1
      ∙ ap (λ (v : ℕ). let d : Trace = record c { past = said w.cluster.judge before (Serve n u v false) None ∷ before } in d) (sym (newest_stays w.cluster n i _ p c.past))
      ∙ ap (λ (b : Bool). let d : Trace = (if b then say w Come (Some p) c else serve w n u (say w Come (Some p) c)) in d) (sym free)
      ∙ ap (λ (x : Outcome). follow w n (placed_on x) (say w Come (Some p) c)) t.0

  -- a packet waits where it is placed on a node that is held
  held_stays : is_held n c ≡ true → say w (arrival n i c) (Some p) c ≡ arrive w n i p c
  unfolding arrive follow serve
  held_stays held = go (placed_on (w.cluster.judge c.past Come (Some p)))
    where
      go : (u : Option ℕ) → say w Come (Some p) c ≡ follow w n u (say w Come (Some p) c)
      go None = refl
      go (Some u) = ap (λ (b : Bool). let d : Trace = (if b then say w Come (Some p) c else serve w n u (say w Come (Some p) c)) in d) (sym held)

-- the same, as the code finds it
pub passed_is : (w : World) (k : Cluster) (n i : ℕ) (p : Packet) (c : Trace) (marks : List Bool) (version : ℕ) (q : Passed) → w.cluster ≡ k → is_held n c ≡ false → marks ≡ marks_at n c → version ≡ newest_on k n c.past → AreTold k.judge c.past (Arrive n i marks) p (λ u. Serve n u (newest_on k n c.past) false) q → with_passed (Arrive n i marks) p (λ u. Serve n u version false) q c ≡ arrive w n i p c
passed_is w k n i p c marks version q same free there new told =
    ap (λ (v : ℕ). with_passed (Arrive n i marks) p (λ u. Serve n u v false) q c) new
    ∙ subst (λ (j : Cluster). AreTold j.judge c.past (Arrive n i marks) p (λ u. Serve n u (newest_on j n c.past) false) q → with_passed (Arrive n i marks) p (λ u. Serve n u (newest_on j n c.past) false) q c ≡ arrive w n i p c) same
    (subst (λ (ms : List Bool). AreTold w.cluster.judge c.past (Arrive n i ms) p (λ u. Serve n u (newest_on w.cluster n c.past) false) q → with_passed (Arrive n i ms) p (λ u. Serve n u (newest_on w.cluster n c.past) false) q c ≡ arrive w n i p c) (sym there)
    (passed_arrives w n i p c free q)) told

-- at a node that is held its arrival alone is told
pub held_is : (w : World) (k : Cluster) (n i : ℕ) (p : Packet) (c : Trace) (marks : List Bool) (o : Outcome) → w.cluster ≡ k → is_held n c ≡ true → marks ≡ marks_at n c → o ≡ k.judge c.past (Arrive n i marks) (Some p) → noted (record { event = Arrive n i marks; packet = Some p; outcome = o }) c ≡ arrive w n i p c
held_is w k n i p c marks o same held there told =
    ap (λ (x : Outcome). noted (record { event = Arrive n i marks; packet = Some p; outcome = x }) c) (told ∙ ap (λ (j : Cluster). j.judge c.past (Arrive n i marks) (Some p)) (sym same))
    ∙ ap (λ (ms : List Bool). say w (Arrive n i ms) (Some p) c) there
    ∙ held_stays w n i p c held

-- a packet for which no node is live is counted
pub unrouted_is : (w : World) (i : ℕ) (p : Packet) (c d : Trace) (o : Option ℕ) → w.choice c.live (flow_of p) c.nth ≡ o → o ≡ None → d ≡ record c { nth = c.nth + 1; unrouted = c.unrouted + 1 } → d ≡ deliver w i p c
unfolding deliver route
unrouted_is w i p c d o chosen none is = is ∙ ap (λ (x : Option ℕ). route w i p x (record c { nth = c.nth + 1 })) (sym (chosen ∙ none))

-- else it arrives at the node that is chosen
pub routed_is : (w : World) (n i : ℕ) (p : Packet) (c d e : Trace) (o : Option ℕ) → w.choice c.live (flow_of p) c.nth ≡ o → o ≡ Some n → d ≡ record c { nth = c.nth + 1 } → e ≡ arrive w n i p d → e ≡ deliver w i p c
unfolding deliver route
routed_is w n i p c d e o chosen some is arrives = arrives ∙ ap (λ (x : Trace). arrive w n i p x) is ∙ ap (λ (x : Option ℕ). route w i p x (record c { nth = c.nth + 1 })) (sym (chosen ∙ some))

-- the trace of a run by which one packet more was handed to the spreader
abbrev pub counted_on : {P : Type 0} → Playing P → Trace
counted_on p = record p.trace { nth = p.trace.nth + 1 }
