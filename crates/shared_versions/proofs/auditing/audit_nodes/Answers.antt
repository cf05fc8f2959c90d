use Rattle.std.proofs.Common.{◌≡◌, [], rules}
use Rattle.cluster_core.specs.Deployed.{rules_of}
use Rattle.cluster_core.specs.Runs.{verdicts}
use Rattle.shared_versions.proofs.Audits.{agreed_of}
use Rattle.shared_versions.proofs.auditing.audit_nodes.Goals as goal

pub returns : goal.returns
returns g c =
    let Agrees : g.row.N.Denot → Type 0 = λ r. g.N.Recorded.outcomes_of r ≡ verdicts (rules_of (λ s z. g.S.Scheme.pick s z) (λ h. g.H.FlowHash.plain h) c.args.auditor.now) [] c.args.packets.now (g.N.Recorded.events_of r) in
    agreed_of Agrees c.args.nodes.now c.in_ok-audits.audits.items c.all_agree.result (search rules) (λ i a d in'. (c.in_ok-audits.ensures.each i a in').1.met d) c.all_agree.ensures.given c.all_agree.ensures.agree
