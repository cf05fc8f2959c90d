use Rattle.std.proofs.Common.{◌≡◌, ◌≤◌, refl, Option, true, false, length, option_copied, sym, ap, subst, arith}
use Rattle.std.specs.Prelude.{IfOk, slice_get, slice_set}
use Rattle.cluster_node.specs.Rules.{Rules}
use Rattle.cluster_node.specs.Records.{WasRead, node_of}
use Rattle.cluster_node.specs.declared.packets.Packet.{Packet}
use Rattle.cluster_core.specs.Setups.{rules_for}
use Rattle.cluster_core.specs.RunView.{RunView}
use Rattle.cluster_core.specs.Runs.{RunStands, RunGoes, newest_at}
use Rattle.cluster_core.proofs.Preparing.{is_known}
use Rattle.cluster_core.proofs.Nodes.{no_node, result_said}
use Rattle.shared_versions.specs.PrivateHeld.{is_held}
use Rattle.shared_versions.proofs.Kept.{held_more}
use Rattle.shared_versions.proofs.replay.Replay.step.Goals as goal

pub returns-then-at-len-clause-verdict : goal.returns-then-at-len-clause-verdict
returns-then-at-len-clause-verdict g c = λ past few held st.
    no_node (λ s z. g.S.Scheme.pick s z) (rules_for (λ s z. g.S.Scheme.pick s z) (λ h. g.H.FlowHash.plain h) c.args.setup.now c.args.catalogue.now) past c.args.self.now c.args.event.now (option_copied c.args.packet)
    (subst (λ (z : RunView g.row.S.Denot). length z.nodes ≤ node_of c.args.event.now) c.self.view_is (let a : length c.self.inside.nodes.items ≤ node_of c.args.event.now = omega (arith, c.len.ensures, c.if-at-len.true, c.node_at-at.ensures) in a)) st

pub returns-clause-verdict : goal.returns-clause-verdict
returns-clause-verdict g c = λ past few held st.
    let rules : Rules = rules_for (λ s z. g.S.Scheme.pick s z) (λ h. g.H.FlowHash.plain h) c.args.setup.now c.args.catalogue.now in
    let e = c.args.event.now in
    let run : RunView g.row.S.Denot = record { failed = false; nodes = c.self.inside.nodes.items; versions = c.self.inside.versions.now } in
    let stands : RunStands (λ s z. g.S.Scheme.pick s z) rules past run = subst (λ (z : RunView g.row.S.Denot). RunStands (λ s z. g.S.Scheme.pick s z) rules past z) (sym c.self.view_is) st in
    let here : is_held c.args.catalogue.now run.versions e ≡ true = subst (λ (z : RunView g.row.S.Denot). is_held c.args.catalogue.now z.versions e ≡ true) (sym c.self.view_is) held in
    let read : WasRead c.copied.result = subst (λ (p : Option Packet). WasRead p) (sym c.copied.ensures) c.requires.read in
    subst (λ (p : Option Packet). IfOk c.step.result (λ o. RunGoes (λ s z. g.S.Scheme.pick s z) rules past e p o (record { failed = false; nodes = slice_set run.nodes c.node_at-at.result c.step.new.self; versions = run.versions }))) c.copied.ensures
    (result_said (λ s z. g.S.Scheme.pick s z) rules past run e c.copied.result c.step.result c.node_at-at.result (newest_at (slice_get run.nodes (node_of e))) c.index_mut-one.result.now c.step.new.self run.versions read few c.node_at-at.ensures
    (omega (arith, c.len.ensures, c.if-at-len.false)) c.index_mut-one.ensures.value refl stands
    (held_more (λ s z. g.S.Scheme.pick s z) (λ h. g.H.FlowHash.plain h) c.args.setup.now c.args.catalogue.now (newest_at (slice_get run.nodes (node_of e))) run.versions e stands.good here)
    (λ had all less one. c.step.ensures.verdict rules had (ap (λ (h : g.row.H.Denot). g.H.FlowHash.plain h) (sym c.hash.ensures))
    (is_known (λ s z. g.S.Scheme.pick s z) (λ h. g.H.FlowHash.plain h) c.args.setup.now c.args.catalogue.now e c.is_known-known.result c.is_known-known.ensures) all less one))
