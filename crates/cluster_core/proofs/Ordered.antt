-- The cluster of any rules is orderly, and its histories are balanced.
use Rattle.std.proofs.Common.{◌≡◌, ◌≤◌, ℕ, List, reverse, Option, Result, sym, ap, ◌∙◌, subst, arith}
use Rattle.std.proofs.lemmas.List.{reverse-reverse}
use Rattle.std.specs.Prelude.{IfOk}
use Rattle.forwarder.specs.Serving.{Pick}
use Rattle.pool_versions.specs.Pool.{Pools}
use Rattle.cluster_node.specs.declared.outcomes.Outcome.{Outcome}
use Rattle.cluster_core.specs.Setups.{Fixed, rules_for}
use Rattle.cluster_core.specs.RunView.{RunView}
use Rattle.cluster_node.specs.declared.packets.Packet.{Packet}
use Rattle.cluster_node.specs.declared.events.Event.{Event}
use Rattle.cluster_node.specs.declared.events.LogEntry.{LogEntry}
use Rattle.cluster_node.specs.Rules.{Rules}
use Rattle.cluster_node.specs.Records.{Judged}
use Rattle.cluster_core.specs.Runs.{RunStands, RunGoes, verdict, cluster_by}
use Rattle.cluster_core.specs.Totals.{came_of, went_of, came_all, went_all}
use Rattle.cluster_core.specs.Histories.{IsSteady, outcomes_of}
use Rattle.cluster_core.proofs.Order.{sound, verdict_sends}
use Rattle.cluster_core.proofs.Reversed.{came_told, went_told, sends_told}
use Rattle.cluster_core.specs.Cluster.{Orderly}
use Rattle.cluster_core.specs.Deployed.{Deployed, rules_of, IsBalanced, SendsArePicked}

pub orderly : (rules : Rules) → Orderly (cluster_by rules)
orderly rules = record {
  sound = λ past j n w there here. sound rules past j n w;
  first = λ past e p n w place x b v h. verdict_sends n w place x b v rules past e p h;
}

pub told_balance : (past : List LogEntry) → went_of past ≤ came_of past → IsBalanced (reverse past)
told_balance past h =
    let c : came_all (outcomes_of (reverse past)) ≡ came_of past = came_told (reverse past) ∙ ap came_of (reverse-reverse past) in
    let w : went_all (outcomes_of (reverse past)) ≡ went_of past = went_told (reverse past) ∙ ap went_of (reverse-reverse past) in
    omega arith

pub told_picks : (rules : Rules) → IsSteady rules → SendsArePicked rules
told_picks rules steady past j = sends_told rules (reverse past) steady (subst (Judged (verdict rules)) (sym (reverse-reverse past)) j)

-- a step, where the setup and the catalogue are those of the rules
pub stepped : {S H E : Type 0} (pick_of : S → ℕ → Pick) (plain_of : H → List ℕ → ℕ) (r : Deployed S H) (setup : Fixed S H) (pools : Pools) (past : List LogEntry) (e : Event) (x y : Option Packet) (was now : RunView S) (result : Result Outcome E) → setup ≡ r.setup → pools ≡ r.catalogue → x ≡ y
    → (RunStands pick_of (rules_for pick_of plain_of setup pools) past was → IfOk result (λ o. RunGoes pick_of (rules_for pick_of plain_of setup pools) past e x o now)) → RunStands pick_of (rules_of pick_of plain_of r) past was → IfOk result (λ o. RunGoes pick_of (rules_of pick_of plain_of r) past e y o now)
stepped {S} {H} pick_of plain_of r setup pools past e x y was now result s p o h =
    subst (λ (z : Option Packet). RunStands pick_of (rules_of pick_of plain_of r) past was → IfOk result (λ o. RunGoes pick_of (rules_of pick_of plain_of r) past e z o now)) o
    (subst (λ (q : Pools). RunStands pick_of (rules_for pick_of plain_of r.setup q) past was → IfOk result (λ o. RunGoes pick_of (rules_for pick_of plain_of r.setup q) past e x o now)) p
    (subst (λ (f : Fixed S H). RunStands pick_of (rules_for pick_of plain_of f pools) past was → IfOk result (λ o. RunGoes pick_of (rules_for pick_of plain_of f pools) past e x o now)) s h))
