use Rattle.cluster_core.specs.Deployed.{rules_of}
use Rattle.cluster_core.proofs.Between.{balanced_run}
use Rattle.cluster_core.proofs.Ordered.{told_balance}
use Rattle.event_trace.proofs.balancers.Balancers.keep_balance.Goals as goal

pub returns-clause-history : goal.returns-clause-history
returns-clause-history g c = λ past st. told_balance past (balanced_run (λ s z. g.S.Scheme.pick s z) (rules_of (λ s z. g.S.Scheme.pick s z) (λ h. g.H.FlowHash.plain h) c.args.deployment.now) past c.args.self.now.run st)
