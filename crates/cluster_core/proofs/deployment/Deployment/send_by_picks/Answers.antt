use Rattle.cluster_core.specs.Deployed.{rules_of}
use Rattle.cluster_core.proofs.Ordered.{told_picks}
use Rattle.cluster_core.proofs.deployment.Deployment.send_by_picks.Goals as goal

pub returns : goal.returns
returns g c = λ steady. told_picks (rules_of (λ s z. g.S.Scheme.pick s z) (λ h. g.H.FlowHash.plain h) c.args.self.now) (g.met.S.Scheme.pick_is_steady steady c.args.self.now.setup.scheme c.args.self.now.setup.size)
