use Rattle.std.proofs.Common.{◌≡◌, ℕ, true, sym, subst, List, []}
use Rattle.backend_names.specs.Sizes.{is_table_size}
use Rattle.cluster_node.specs.Rules.{Rules}
use Rattle.cluster_node.specs.declared.outcomes.Outcome.{Outcome}
use Rattle.cluster_core.specs.Setups.{rules_for}
use Rattle.cluster_core.specs.Runs.{verdicts}
use Rattle.cluster_core.specs.Headline.{Agreement, Keeping, KeepingUps}
use Rattle.cluster_core.specs.Explain.{PickedSends}
use Rattle.cluster_core.proofs.Sends.{agreement, picked_sends}
use Rattle.cluster_core.proofs.Keeps.{keeping, keeping_ups}
use Rattle.cluster_core.proofs.Nodes.{if_ok_map}
use Rattle.cluster_core.proofs.Slots.{tables_are_even, no_slot_drains}
use Rattle.cluster_core.proofs.replaying.replay.Goals as goal

pub returns-clause-agreement : goal.returns-clause-agreement
returns-clause-agreement g c = λ steady.
    let rules : Rules = rules_for (λ s z. g.S.Scheme.pick s z) (λ h. g.H.FlowHash.plain h) c.args.setup.now c.args.catalogue.now in
    if_ok_map c.replay_all.result (λ v h. subst (λ (os : List Outcome). Agreement rules os) (sym h) (agreement rules (g.met.S.Scheme.pick_is_steady steady c.args.setup.now.scheme c.args.setup.now.size) c.args.packets.now c.args.events.now)) c.replay_all.ensures.verdicts

pub returns-clause-keeping : goal.returns-clause-keeping
returns-clause-keeping g c =
    let rules : Rules = rules_for (λ s z. g.S.Scheme.pick s z) (λ h. g.H.FlowHash.plain h) c.args.setup.now c.args.catalogue.now in
    if_ok_map c.replay_all.result (λ v h. subst (λ (os : List Outcome). Keeping rules [] c.args.packets.now c.args.events.now os) (sym h) (keeping rules [] c.args.packets.now c.args.events.now)) c.replay_all.ensures.verdicts

pub returns-clause-keeping_ups : goal.returns-clause-keeping_ups
returns-clause-keeping_ups g c =
    let rules : Rules = rules_for (λ s z. g.S.Scheme.pick s z) (λ h. g.H.FlowHash.plain h) c.args.setup.now c.args.catalogue.now in
    if_ok_map c.replay_all.result (λ v h. subst (λ (os : List Outcome). KeepingUps rules [] c.args.packets.now c.args.events.now os) (sym h)
    (keeping_ups rules [] c.args.packets.now c.args.events.now (verdicts rules [] c.args.packets.now c.args.events.now) (keeping rules [] c.args.packets.now c.args.events.now))) c.replay_all.ensures.verdicts

pub returns-clause-picked : goal.returns-clause-picked
returns-clause-picked g c = λ steady.
    let rules : Rules = rules_for (λ s z. g.S.Scheme.pick s z) (λ h. g.H.FlowHash.plain h) c.args.setup.now c.args.catalogue.now in
    if_ok_map c.replay_all.result (λ v h. subst (λ (os : List Outcome). PickedSends rules os) (sym h) (picked_sends rules (g.met.S.Scheme.pick_is_steady steady c.args.setup.now.scheme c.args.setup.now.size) c.args.packets.now c.args.events.now)) c.replay_all.ensures.verdicts

pub returns-clause-slots : goal.returns-clause-slots
returns-clause-slots g c = tables_are_even (g.H.FlowHash.plain c.args.setup.now.hash) c.args.setup.now.size c.args.catalogue.now
    (subst (λ (z : ℕ). is_table_size z ≡ true) c.size.ensures c.slots-slots.ensures.listed) c.keeps_doubles_out.ensures

pub returns-clause-none_drains : goal.returns-clause-none_drains
returns-clause-none_drains g c = no_slot_drains (g.H.FlowHash.plain c.args.setup.now.hash) c.args.setup.now.size c.args.catalogue.now c.keeps_doubles_out.ensures
