-- What a run is asked between events, by its record.
use Rattle.std.proofs.Common.{◌≡◌, ℕ, ◌+◌, ◌<◌, ◌≤◌, Bool, true, false, List, [], ◌∷◌, length, zero, suc, Option, Some, None, refl, sym, ap, ◌∙◌, subst, arith, length-drop}
use Rattle.std.specs.Prelude.{slice_get, nat_lt, ◌&&◌, if◌then◌else◌}
use Rattle.std.proofs.lemmas.Bool.{lt-ltb, le-ltb}
use Rattle.forwarder.specs.Serving.{Pick}
use Rattle.cluster_node.specs.NodeView.{NodeView}
use Rattle.cluster_node.specs.WorkerView.{WorkerView}
use Rattle.cluster_node.specs.Rules.{Rules}
use Rattle.cluster_node.specs.declared.events.LogEntry.{LogEntry}
use Rattle.cluster_node.specs.Book.{Stands, placed, taken_count}
use Rattle.cluster_node.specs.Record.{NodeStands, newest_of, waiting_at}
use Rattle.cluster_node.specs.Records.{of_node, lines_at}
use Rattle.cluster_node.proofs.Records.{get_below, get_past}
use Rattle.cluster_core.specs.RunView.{RunView}
use Rattle.cluster_core.specs.Totals.{came_of, went_of}
use Rattle.cluster_core.specs.Cluster.{newest_on, left_of, waiting_on}
use Rattle.cluster_core.specs.Runs.{cluster_by, RunStands, waiting_in, newest_at, queued_at}
use Rattle.cluster_core.proofs.Nodes.{get_below as node_below}

node_past : (ws : List NodeView) (w : ℕ) → slice_get ws w ≡ None → length ws ≤ w
node_past [] w h = omega arith
node_past (y ∷ ws) zero h = absurd (cc)
node_past (y ∷ ws) (suc w) h = omega (arith, node_past ws w h)

module _ {S : Type 0} (pick_of : S → ℕ → Pick) (rules : Rules) (past : List LogEntry) (run : RunView S) (st : RunStands pick_of rules past run) where
  there : (n : ℕ) (m : NodeView) → slice_get run.nodes n ≡ Some m → nat_lt n rules.nodes ≡ true
  there n m h = lt-ltb n rules.nodes (subst (λ (k : ℕ). n < k) st.count (node_below run.nodes n m h))

  missing : (n : ℕ) → slice_get run.nodes n ≡ None → nat_lt n rules.nodes ≡ false
  missing n h = le-ltb n rules.nodes (subst (λ (k : ℕ). k ≤ n) st.count (node_past run.nodes n h))

  pub newest_is : (n : ℕ) → newest_at (slice_get run.nodes n) ≡ newest_on (cluster_by rules) n past
  unfolding newest_on
  newest_is n = go (slice_get run.nodes n) refl
    where
      go : (o : Option NodeView) → slice_get run.nodes n ≡ o → newest_at o ≡ newest_on (cluster_by rules) n past
      go None h = ap (λ (b : Bool). if b then newest_of (of_node n past) else 0) (sym (missing n h))
      go (Some m) h = (st.each n m h).newest ∙ ap (λ (b : Bool). if b then newest_of (of_node n past) else 0) (sym (there n m h))

  on_worker : (n w : ℕ) (m : NodeView) → NodeStands rules (of_node n past) m → (o : Option WorkerView) → slice_get m.workers w ≡ o → waiting_at o ≡ (if nat_lt w rules.workers then left_of (lines_at past n w) else 0)
  on_worker n w m ns None h = ap (λ (b : Bool). if b then left_of (lines_at past n w) else 0) (sym (le-ltb w rules.workers (subst (λ (k : ℕ). k ≤ w) ns.count (get_past m.workers w h))))
  on_worker n w m ns (Some u) h =
      let s : Stands rules (lines_at past n w) u = ns.each w u h in
      ap (λ (x : WorkerView). length x.queue) s.is ∙ length-drop (taken_count (lines_at past n w)) (placed (lines_at past n w))
      ∙ ap (λ (b : Bool). if b then left_of (lines_at past n w) else 0) (sym (lt-ltb w rules.workers (subst (λ (k : ℕ). w < k) ns.count (get_below m.workers w u h))))

  pub waiting_is : (n w : ℕ) → queued_at w (slice_get run.nodes n) ≡ waiting_on (cluster_by rules) n w past
  unfolding waiting_on
  waiting_is n w = go (slice_get run.nodes n) refl
    where
      go : (o : Option NodeView) → slice_get run.nodes n ≡ o → queued_at w o ≡ waiting_on (cluster_by rules) n w past
      go None h = ap (λ (b : Bool). if b && nat_lt w rules.workers then left_of (lines_at past n w) else 0) (sym (missing n h))
      go (Some m) h = on_worker n w m (st.each n m h) (slice_get m.workers w) refl ∙ ap (λ (b : Bool). if b && nat_lt w rules.workers then left_of (lines_at past n w) else 0) (sym (there n m h))

  pub balanced_run : went_of past ≤ came_of past
  balanced_run = let b : waiting_in run.nodes + went_of past ≡ came_of past = st.balance in omega arith
