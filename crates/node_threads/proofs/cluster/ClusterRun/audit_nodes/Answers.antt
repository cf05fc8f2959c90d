use Rattle.std.proofs.Common.{◌≡◌, ◌↔◌, [], List, subst}
use Rattle.std.specs.Prelude.{All, IfOk, IsTrue}
use Rattle.cluster_node.specs.Rules.{Rules}
use Rattle.cluster_core.specs.Deployed.{Deployed, rules_of}
use Rattle.cluster_core.specs.Runs.{verdicts}
use Rattle.thread_records.specs.declared.nodes.NodeRecord.{NodeRecord}
use Rattle.node_threads.proofs.cluster.ClusterRun.audit_nodes.Goals as goal

pub returns : goal.returns
returns g c =
    let Agrees : Rules → NodeRecord → Type 0 = λ rules r. r.outcomes.items ≡ verdicts rules [] c.args.packets.now r.events.items in
    let audit = subst (λ (d : Deployed _ _). IfOk c.audit_nodes.result (λ b. IsTrue b ↔ All (Agrees (rules_of (λ s z. g.S.Scheme.pick s z) (λ h. g.H.FlowHash.plain h) d)) c.as_slice-nodes.result.now)) c.in_ok-auditor.ensures c.audit_nodes.ensures in
    subst (λ (ns : List NodeRecord). IfOk c.audit_nodes.result (λ b. IsTrue b ↔ All (Agrees (rules_of (λ s z. g.S.Scheme.pick s z) (λ h. g.H.FlowHash.plain h) (record { setup = c.args.setup.now; catalogue = c.args.catalogue.now }))) ns)) c.as_slice-nodes.ensures.value audit
