-- A packet that comes to a node of a run, and the serving behind it.
use Rattle.std.proofs.Common.{◌≡◌, ℕ, ◌<◌, ◌≤◌, Bool, false, List, ◌∷◌, length, Option, Some, None, refl, sym, ap, ◌∙◌, subst, Result, Ok, Err, get_or}
use Rattle.std.specs.Prelude.{slice_get, slice_set, if◌then◌else◌, OnOk}
use Rattle.std.proofs.lemmas.Bool.{eq-eqb, lt-ltb}
use Rattle.forwarder.specs.Serving.{Pick}
use Rattle.cluster_node.specs.NodeView.{NodeView}
use Rattle.cluster_node.specs.Rules.{Rules}
use Rattle.cluster_node.specs.declared.packets.Packet.{Packet}
use Rattle.cluster_node.specs.declared.events.LogEntry.{LogEntry}
use Rattle.cluster_node.specs.declared.events.Event.{Event}
use Rattle.cluster_node.specs.declared.events.Event.TheVariants.{Arrive, Serve}
use Rattle.cluster_node.specs.declared.outcomes.Outcome.{Outcome}
use Rattle.cluster_node.specs.declared.outcomes.Outcome.TheVariants.{Placed, Refused}
use Rattle.cluster_node.specs.declared.outcomes.Reason.TheVariants.{NoNode}
use Rattle.cluster_node.specs.declared.outcomes.Passed.{Passed}
use Rattle.cluster_node.specs.declared.outcomes.Passed.TheVariants.{Unplaced, Through}
use Rattle.cluster_node.specs.Record.{node_verdict, newest_of, installed_of, ArePrepared, NodeStands, NodeGoes}
use Rattle.cluster_node.specs.Records.{WasRead, of_node, said, with_arrival, NodePasses}
use Rattle.cluster_node.proofs.Passing.{get_same, set_twice}
use Rattle.pool_versions.specs.Pool.{Pools}
use Rattle.cluster_core.specs.Setups.{Fixed, rules_for}
use Rattle.cluster_core.specs.Deployed.{Deployed, rules_of, cluster_of}
use Rattle.cluster_core.specs.Cluster.{newest_on}
use Rattle.cluster_core.proofs.Between.{newest_is}
use Rattle.cluster_core.specs.RunView.{RunView}
use Rattle.cluster_core.specs.Runs.{verdict, newest_at, RunStands, RunGoes, RunPasses}
use Rattle.cluster_core.proofs.Preparing.{none_more}
use Rattle.cluster_core.proofs.Nodes.{step_goes, no_node, get_below, get_of_or}

module _ {S : Type 0} (pick_of : S → ℕ → Pick) (rules : Rules) (past : List LogEntry) (run : RunView S) (n k : ℕ) (marks : List Bool) (p : Packet) (m after : NodeView) (read : WasRead (Some p)) (st : RunStands pick_of rules past run) (there : slice_get run.nodes n ≡ Some m) where
  abbrev pub Come : Event
  Come = Arrive n k marks

  abbrev pub with_node : NodeView → RunView S
  with_node y = record { failed = run.failed; nodes = slice_set run.nodes n y; versions = run.versions }

  -- the arrival alone
  arrives : (o : Outcome) (y : NodeView) → NodeGoes rules (of_node n past) Come (Some p) o y → RunGoes pick_of rules past Come (Some p) o (with_node y)
  arrives o y g = step_goes pick_of rules past run Come (Some p) o m y run.versions read st (none_more pick_of rules (newest_of (of_node n past)) run.versions Come st.good tt) there g

  -- what the node had is what the run has of it
  same_before : of_node n (with_arrival (verdict rules) past Come p) ≡ with_arrival (node_verdict rules) (of_node n past) Come p
  same_before =
      ap (λ (b : Bool). if b then said (verdict rules) past Come (Some p) ∷ of_node n past else of_node n past) (eq-eqb n n refl)
      ∙ ap (λ (b : Bool). let s : LogEntry = record { event = Come; packet = Some p; outcome = if b then node_verdict rules (of_node n past) Come (Some p) else Refused NoNode } in s ∷ of_node n past) (lt-ltb n rules.nodes (subst (λ (c : ℕ). n < c) st.count (get_below run.nodes n m there)))

  serves : (w f v : ℕ) (o : Outcome) (between : NodeView) → Placed w f ≡ node_verdict rules (of_node n past) Come (Some p) → NodeStands rules (with_arrival (node_verdict rules) (of_node n past) Come p) between → NodeGoes rules (with_arrival (node_verdict rules) (of_node n past) Come p) (Serve n w v false) None o after → RunPasses pick_of rules past Come p (λ u. Serve n u v false) (Through w f o) (with_node after)
  serves w f v o between placed stands goes =
      let first : RunGoes pick_of rules past Come (Some p) (Placed w f) (with_node between) = arrives (Placed w f) between (placed, stands) in
      let second : RunGoes pick_of rules (with_arrival (verdict rules) past Come p) (Serve n w v false) None o (record { failed = run.failed; nodes = slice_set (slice_set run.nodes n between) n after; versions = run.versions }) =
      step_goes pick_of rules (with_arrival (verdict rules) past Come p) (with_node between) (Serve n w v false) None o between after run.versions tt first.1
      (none_more pick_of rules (newest_of (of_node n (with_arrival (verdict rules) past Come p))) run.versions (Serve n w v false) first.1.good tt) (get_same run.nodes n m between there)
      (subst (λ (had : List LogEntry). NodeGoes rules had (Serve n w v false) None o after) (sym same_before) goes) in
      let last : RunGoes pick_of rules (with_arrival (verdict rules) past Come p) (Serve n w v false) None o (with_node after) =
      subst (λ (ys : List NodeView). RunGoes pick_of rules (with_arrival (verdict rules) past Come p) (Serve n w v false) None o (record { failed = run.failed; nodes = ys; versions = run.versions })) (set_twice run.nodes n between after) second in (
        (first.0, last.0),
        subst (λ (x : Outcome). RunStands pick_of rules (record { event = Serve n w v false; packet = None; outcome = o } ∷ record { event = Come; packet = Some p; outcome = x } ∷ past) (with_node after)) (sym first.0)
            (subst (λ (x : Outcome). RunStands pick_of rules (record { event = Serve n w v false; packet = None; outcome = x } ∷ with_arrival (verdict rules) past Come p) (with_node after)) (sym last.0) last.1),
      )

  pub pass_goes : (v : ℕ) (q : Passed) → NodePasses rules (of_node n past) Come p (λ w. Serve n w v false) q after → RunPasses pick_of rules past Come p (λ w. Serve n w v false) q (with_node after)
  pass_goes v (Unplaced o) g =
      let r : RunGoes pick_of rules past Come (Some p) o (with_node after) = arrives o after (g.0.1, g.1) in
      ((g.0.0, r.0), subst (λ (x : Outcome). RunStands pick_of rules (record { event = Come; packet = Some p; outcome = x } ∷ past) (with_node after)) (sym r.0) r.1)
  pass_goes v (Through w f o) g = serves w f v o g.1.0 g.0.0 g.1.1 (g.0.1, g.1.2)

-- the same where it isn't refused, as the code finds it
pub pass_said : {S E : Type 0} (pick_of : S → ℕ → Pick) (rules : Rules) (past : List LogEntry) (run : RunView S) (n k : ℕ) (marks : List Bool) (p : Packet) (one after : NodeView) (q : Passed) (r : Result (Unit {0}) E) → WasRead (Some p) → n < length run.nodes → one ≡ get_or run.nodes n one → RunStands pick_of rules past run
    → ((had : List LogEntry) → ArePrepared pick_of rules run.versions (installed_of had) → NodeStands rules had one → OnOk r (NodePasses rules had (Arrive n k marks) p (λ w. Serve n w one.newest false) q after))
    → OnOk r (RunPasses pick_of rules past (Arrive n k marks) p (λ w. Serve n w (newest_at (slice_get run.nodes n)) false) q (record { failed = run.failed; nodes = slice_set run.nodes n after; versions = run.versions }))
pass_said pick_of rules past run n k marks p one after q (Ok d) read lt is st g =
    let there : slice_get run.nodes n ≡ Some one = get_of_or run.nodes n one lt ∙ ap (λ (m : NodeView). Some m) (sym is) in
    subst (λ (o : Option NodeView). RunPasses pick_of rules past (Arrive n k marks) p (λ w. Serve n w (newest_at o) false) q (record { failed = run.failed; nodes = slice_set run.nodes n after; versions = run.versions })) (sym there)
    (pass_goes pick_of rules past run n k marks p one after read st there one.newest q (g (of_node n past) (st.prepared n) (st.each n one there)))
pass_said pick_of rules past run n k marks p one after q (Err e) read lt is st g = tt

pub no_node_passes : {S : Type 0} (pick_of : S → ℕ → Pick) (rules : Rules) (past : List LogEntry) (run : RunView S) (n k v : ℕ) (marks : List Bool) (p : Packet) → length run.nodes ≤ n → RunStands pick_of rules past run → RunPasses pick_of rules past (Arrive n k marks) p (λ w. Serve n w v false) (Unplaced (Refused NoNode)) run
no_node_passes pick_of rules past run n k v marks p le st =
    let r : RunGoes pick_of rules past (Arrive n k marks) (Some p) (Refused NoNode) run = no_node pick_of rules past run (Arrive n k marks) (Some p) le st in
    ((refl, r.0), subst (λ (x : Outcome). RunStands pick_of rules (record { event = Arrive n k marks; packet = Some p; outcome = x } ∷ past) run) (sym r.0) r.1)

-- the same under a setup and a catalogue that fit, by the record's newest version
pub passed_by : {S H : Type 0} (pick_of : S → ℕ → Pick) (plain_of : H → List ℕ → ℕ) (ruling : Deployed S H) (setup : Fixed S H) (past : List LogEntry) (n k : ℕ) (marks : List Bool) (p : Packet) (run after : RunView S) (q : Passed) → setup ≡ ruling.setup → RunStands pick_of (rules_of pick_of plain_of ruling) past run
    → ((pools : Pools) (had : List LogEntry) → RunStands pick_of (rules_for pick_of plain_of setup pools) had run → RunPasses pick_of (rules_for pick_of plain_of setup pools) had (Arrive n k marks) p (λ w. Serve n w (newest_at (slice_get run.nodes n)) false) q after)
    → RunPasses pick_of (rules_of pick_of plain_of ruling) past (Arrive n k marks) p (λ w. Serve n w (newest_on (cluster_of pick_of plain_of ruling) n past) false) q after
passed_by {S} {H} pick_of plain_of ruling setup past n k marks p run after q same st g =
    subst (λ (v : ℕ). RunPasses pick_of (rules_of pick_of plain_of ruling) past (Arrive n k marks) p (λ w. Serve n w v false) q after) (newest_is pick_of (rules_of pick_of plain_of ruling) past run st n)
    (subst (λ (s : Fixed S H). RunStands pick_of (rules_for pick_of plain_of s ruling.catalogue) past run → RunPasses pick_of (rules_for pick_of plain_of s ruling.catalogue) past (Arrive n k marks) p (λ w. Serve n w (newest_at (slice_get run.nodes n)) false) q after) same (g ruling.catalogue past) st)
