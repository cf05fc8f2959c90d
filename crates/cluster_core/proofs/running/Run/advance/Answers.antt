use Rattle.std.proofs.Common.{◌≤◌, ◌∙◌, ℕ, List, length, sym, ap, subst, arith}
use Rattle.selection.specs.Readied.{Readied}
use Rattle.cluster_node.specs.Rules.{Rules}
use Rattle.cluster_core.specs.Setups.{rules_for}
use Rattle.cluster_core.specs.RunView.{RunView}
use Rattle.std.specs.Prelude.{slice_get}
use Rattle.cluster_core.specs.Runs.{RunStands, newest_at}
use Rattle.cluster_node.specs.Records.{node_of}
use Rattle.cluster_core.proofs.Preparing.{MorePrepared, event_prepares, is_known}
use Rattle.cluster_core.proofs.Nodes.{no_node, result_said}
use Rattle.cluster_core.proofs.running.Run.advance.Goals as goal

pub returns-then-at-len : goal.returns-then-at-len
returns-then-at-len g c = record {
  verdict = λ past few st. no_node (λ s z. g.S.Scheme.pick s z) (rules_for (λ s z. g.S.Scheme.pick s z) (λ h. g.H.FlowHash.plain h) c.args.setup.now c.args.catalogue.now) past c.args.self.now c.args.event.now c.args.packet
      (subst (λ (z : RunView g.row.S.Denot). length z.nodes ≤ node_of c.args.event.now) c.self.view_is (let a : length c.self.inside.nodes.items ≤ node_of c.args.event.now = omega (arith, c.len.ensures, c.if-at-len.true, c.node_at-at.ensures) in a)) st;
}

pub returns : goal.returns
returns g c = record {
  verdict = λ past few st.
      let rules : Rules = rules_for (λ s z. g.S.Scheme.pick s z) (λ h. g.H.FlowHash.plain h) c.args.setup.now c.args.catalogue.now in
      let run : RunView g.row.S.Denot = record { failed = c.self.inside.failed; nodes = c.self.inside.nodes.items; versions = c.self.inside.versions } in
      let stands : RunStands (λ s z. g.S.Scheme.pick s z) rules past run = subst (λ (z : RunView g.row.S.Denot). RunStands (λ s z. g.S.Scheme.pick s z) rules past z) (sym c.self.view_is) st in
      let more : MorePrepared (λ s z. g.S.Scheme.pick s z) rules c.newest_of-newest.result run.versions c.prepare_for.new.versions c.args.event.now =
      subst (λ (ps : List (Readied g.row.S.Denot)). MorePrepared (λ s z. g.S.Scheme.pick s z) rules c.newest_of-newest.result run.versions ps c.args.event.now) (sym c.in_ok-known.ensures.after)
      (event_prepares (λ s z. g.S.Scheme.pick s z) (λ h. g.H.FlowHash.plain h) c.args.setup.now c.args.catalogue.now c.scheme.result c.size.result c.newest_of-newest.result c.args.event.now run.versions (ap (λ (s : g.row.S.Denot). g.S.Scheme.pick s c.size.result) c.scheme.ensures ∙ ap (λ (z : ℕ). g.S.Scheme.pick c.args.setup.now.scheme z) c.size.ensures) stands.good) in
      result_said (λ s z. g.S.Scheme.pick s z) rules past run c.args.event.now c.args.packet c.step.result c.node_at-at.result c.newest_of-newest.result c.index_mut-one.result.now c.step.new.self c.prepare_for.new.versions c.requires few c.node_at-at.ensures
      (omega (arith, c.len.ensures, c.if-at-len.false)) c.index_mut-one.ensures.value (c.newest_of-newest.ensures ∙ ap (λ (k : ℕ). newest_at (slice_get c.args.self.now.nodes k)) c.node_at.ensures ∙ ap (λ (z : RunView g.row.S.Denot). newest_at (slice_get z.nodes (node_of c.args.event.now))) (sym c.self.view_is)) stands more
      (λ had all less one. c.step.ensures.verdict rules had (ap (λ (h : g.row.H.Denot). g.H.FlowHash.plain h) (sym c.hash.ensures)) (is_known (λ s z. g.S.Scheme.pick s z) (λ h. g.H.FlowHash.plain h) c.args.setup.now c.args.catalogue.now c.args.event.now c.in_ok-known.known c.in_ok-known.ensures.known)
      all less one);
}
