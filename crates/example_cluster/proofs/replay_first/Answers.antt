use Rattle.std.proofs.Common.{refl}
use Rattle.std.specs.Prelude.{slice_get}
use Rattle.cluster_core.specs.Setups.{rules_for}
use Rattle.cluster_core.proofs.Nodes.{if_ok_map}
use Rattle.example_cluster.proofs.Picked.{firsts_differ}
use Rattle.example_cluster.proofs.replay_first.Goals as goal

pub returns : goal.returns
returns g c = if_ok_map c.replay.result
    (λ v h. firsts_differ (rules_for (λ s z ups x t. slice_get ups.backends 0) (λ h. g.H.FlowHash.plain h) c.args.setup.now c.args.catalogue.now) c.args.catalogue.now v.items (λ v x. refl) h)
    (c.replay.ensures.agreement refl)
