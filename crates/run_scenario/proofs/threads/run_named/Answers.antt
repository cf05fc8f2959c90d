use Rattle.std.proofs.Common.{◌≡◌, ◌↔◌, ℕ, List, map, [], ap, sym, ◌∙◌, subst}
use Rattle.std.specs.Prelude.{All, IfOk, IsTrue}
use Rattle.hash_laws.specs.Any.{plain_of}
use Rattle.forwarder.specs.Serving.{Pick}
use Rattle.named_scheme.specs.Picking.{pick_of}
use Rattle.cluster_core.specs.Deployed.{Deployed, rules_of}
use Rattle.cluster_core.specs.Runs.{verdicts}
use Rattle.cluster_core.specs.Setups.{rules_for}
use Rattle.cluster_node.specs.Rules.{Rules}
use Rattle.thread_records.specs.declared.nodes.NodeRecord.{NodeRecord}
use Rattle.thread_records.specs.Runs.{AreRuns}
use Rattle.simulate_scenario.specs.Described.{rules_in}
use Rattle.run_scenario.specs.PrivateHistories.{AreEven, TellsOf}
use Rattle.run_scenario.proofs.Audited.{all_told}
use Rattle.run_scenario.proofs.OneByOne.{are_even}
use Rattle.run_scenario.proofs.Ruled.{same_rules, same_fixed}
use Rattle.run_scenario.proofs.threads.run_named.Goals as goal

pub judged-agrees-requires-clause-even : goal.judged-agrees-requires-clause-even
judged-agrees-requires-clause-even g c κs within =
    let rules : Rules = rules_for (λ s z. pick_of s z) (λ h. plain_of h) c.keyed-setup.result c.args.task.now.scenario.now.catalogue in
    subst (λ (ns : List NodeRecord). AreEven ns) (sym c.as_slice-5.ensures.value)
    (are_even rules c.args.task.now.packets.now c.args.task.now.scenario.now.ring 0 (map (λ l. l.items) c.as_slice-3.result.now) c.in_ok-run.run'.nodes.items c.in_ok-run.ensures.runs)

pub returns-clause-audit : goal.returns-clause-audit
returns-clause-audit g c =
    let rules : Rules = rules_for (λ s z. pick_of s z) (λ h. plain_of h) c.keyed-setup.result c.args.task.now.scenario.now.catalogue in
    let Agrees : NodeRecord → Type 0 = λ r. r.outcomes.items ≡ verdicts rules [] c.args.task.now.packets.now r.events.items in
    let told = all_told rules c.args.task.now.packets.now c.args.task.now.scenario.now.ring 0 (map (λ l. l.items) c.as_slice-3.result.now) c.in_ok-run.run'.nodes.items c.in_ok-run.ensures.runs in
    let audit : IfOk c.judged-agrees.result.0 (λ b. IsTrue b ↔ All Agrees c.as_slice-5.result.now) =
    subst (λ (d : Deployed _ _). IfOk c.judged-agrees.result.0 (λ b. IsTrue b ↔ All (λ r. r.outcomes.items ≡ verdicts (rules_of (λ s z. pick_of s z) (λ h. plain_of h) d) [] c.args.task.now.packets.now r.events.items) c.as_slice-5.result.now)) c.in_ok-auditor.ensures c.judged-agrees.ensures.audit in
    let judged : IsTrue c.in_ok-agrees.field-0 ↔ All Agrees c.as_slice-5.result.now =
    subst (λ r. IfOk r (λ b. IsTrue b ↔ All Agrees c.as_slice-5.result.now)) c.in_ok-agrees.was audit in
    judged.1 (subst (λ (ns : List NodeRecord). All Agrees ns) (sym c.as_slice-5.ensures.value) told)

pub returns-clause-runs : goal.returns-clause-runs
returns-clause-runs g c =
    let picks = ap (λ (pick : ℕ → Pick). pick c.args.task.now.scenario.now.size) c.scheme_of-scheme.ensures in
    let is = same_rules (λ s z. pick_of s z) c.scheme_of-scheme.result c.args.task.now.scenario.now c.keyed-setup.result picks (c.keyed-setup.ensures ∙ c.in-Ok.ensures.1 ∙ same_fixed c.scheme_of-scheme.result c.args.task.now.scenario.now c.in_ok-nodes.nodes.items (c.in_ok-nodes.ensures.items ∙ c.as_slice.ensures.value)) in
    subst (λ cs. AreRuns (rules_in c.args.task.now.scenario.now) c.args.task.now.packets.now c.args.task.now.scenario.now.ring 0 (map (λ l. l.items) cs) c.in_ok-run.run'.nodes.items) c.as_slice-3.ensures.value
    (subst (λ (rules : Rules). AreRuns rules c.args.task.now.packets.now c.args.task.now.scenario.now.ring 0 (map (λ l. l.items) c.as_slice-3.result.now) c.in_ok-run.run'.nodes.items) is c.in_ok-run.ensures.runs)

pub returns-clause-told : goal.returns-clause-told
returns-clause-told g c =
    let task = c.args.task.now in
    let told = subst (λ r. IfOk r (TellsOf c.args.turns task.options task.scenario.now task.packets.now c.as_slice-5.result.now)) c.in_ok-told.was c.judged-agrees.ensures.told in
    subst (λ (ns : List NodeRecord). TellsOf c.args.turns task.options task.scenario.now task.packets.now ns c.in_ok-told.field-0) c.as_slice-5.ensures.value told
