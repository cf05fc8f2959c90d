use Rattle.cluster_core.specs.Setups.{rules_for}
use Rattle.shared_versions.proofs.Kept.{stands_over}
use Rattle.shared_versions.proofs.replay.Replay.make.Goals as goal

pub returns-clause-stands : goal.returns-clause-stands
returns-clause-stands g c = λ good. stands_over (λ s z. g.S.Scheme.pick s z) (rules_for (λ s z. g.S.Scheme.pick s z) (λ h. g.H.FlowHash.plain h) c.args.setup.now c.args.catalogue.now) c.in_ok-nodes.nodes.items c.args.versions.now c.fresh_nodes.ensures.workers c.in_ok-nodes.ensures.fresh good
