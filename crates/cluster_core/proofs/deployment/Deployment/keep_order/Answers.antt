use Rattle.cluster_core.specs.Deployed.{rules_of}
use Rattle.cluster_core.proofs.Ordered.{orderly}
use Rattle.cluster_core.proofs.deployment.Deployment.keep_order.Goals as goal

pub returns : goal.returns
returns g c = orderly (rules_of (λ s z. g.S.Scheme.pick s z) (λ h. g.H.FlowHash.plain h) c.args.self.now)
