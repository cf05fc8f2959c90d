use Rattle.std.proofs.Common.{refl, ap}
use Rattle.selection.specs.Picks.{table_pick}
use Rattle.cluster_core.specs.Setups.{rules_for}
use Rattle.cluster_core.proofs.Nodes.{if_ok_map}
use Rattle.cluster_core.proofs.Slots.{tables_differ}
use Rattle.cluster_core.proofs.headline.replay_maglev.Goals as goal

pub returns-clause-agreement : goal.returns-clause-agreement
returns-clause-agreement g c = if_ok_map c.replay.result
    (λ v h. tables_differ (rules_for (λ s z ups x t. table_pick (g.H.FlowHash.plain s.hash) z ups x) (λ h. g.H.FlowHash.plain h) c.args.setup.now c.args.catalogue.now)
    (g.H.FlowHash.plain c.args.setup.now.hash) c.args.setup.now.size c.args.catalogue.now v.items
    (λ ups x. ap (λ (h : g.row.H.Denot). table_pick (g.H.FlowHash.plain h) c.args.setup.now.size ups x) c.requires.hash) (λ v x. refl) h)
    (c.replay.ensures.agreement refl)

pub returns-clause-picked : goal.returns-clause-picked
returns-clause-picked g c = c.replay.ensures.picked refl
