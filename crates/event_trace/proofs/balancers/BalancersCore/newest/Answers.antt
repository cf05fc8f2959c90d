use Rattle.cluster_core.specs.Deployed.{rules_of}
use Rattle.event_trace.proofs.balancers.BalancersCore.newest.Goals as goal

pub returns : goal.returns
returns g c = λ past st. c.newest.ensures.said (rules_of (λ s z. g.S.Scheme.pick s z) (λ h. g.H.FlowHash.plain h) c.args.setup.now.deployment) past st.0
