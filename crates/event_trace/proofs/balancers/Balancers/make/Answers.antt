use Rattle.std.proofs.Common.{subst, []}
use Rattle.cluster_core.specs.Setups.{Fixed, rules_for}
use Rattle.cluster_core.specs.Runs.{RunStands}
use Rattle.event_trace.proofs.balancers.Balancers.make.Goals as goal

pub returns-clause-run : goal.returns-clause-run
returns-clause-run g c = subst (λ (f : Fixed g.row.S.Denot g.row.H.Denot). RunStands (λ s z. g.S.Scheme.pick s z) (rules_for (λ s z. g.S.Scheme.pick s z) (λ h. g.H.FlowHash.plain h) f c.args.deployment.now.catalogue) [] c.in_ok-run.run') c.setup.ensures.setup (c.in_ok-run.ensures.stands c.args.deployment.now.catalogue)
