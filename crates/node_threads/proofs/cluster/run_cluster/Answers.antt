use Rattle.std.proofs.Common.{◌≡◌, [], List, map, sym, subst, ◌∙◌}
use Rattle.cluster_node.specs.Rules.{Rules}
use Rattle.cluster_node.specs.declared.outcomes.Outcome.{Outcome}
use Rattle.cluster_core.specs.Setups.{rules_for}
use Rattle.cluster_core.specs.Headline.{Agreement, Keeping}
use Rattle.cluster_core.proofs.Sends.{agreement}
use Rattle.cluster_core.proofs.Keeps.{keeping}
use Rattle.thread_records.specs.declared.nodes.NodeRecord.{NodeRecord}
use Rattle.thread_records.specs.Joins.{all_outcomes}
use Rattle.thread_records.specs.Runs.{AreRuns, JoinsRuns}
use Rattle.thread_records.proofs.Leans.{same_are_runs, same_outcomes}
use Rattle.thread_roles.specs.Counts.{AreTotals}
use Rattle.thread_roles.specs.declared.fault.RunFault.TheVariants.{Memory}
use Rattle.node_threads.specs.Orders.{asked_all}
use Rattle.node_threads.proofs.Reporting.{refused}
use Rattle.node_threads.proofs.Telling.{err_exit}
use Rattle.node_threads.proofs.cluster.run_cluster.Goals as goal

pub returns-clause-runs : goal.returns-clause-runs
returns-clause-runs g c =
    let rules : Rules = rules_for (λ s z. g.S.Scheme.pick s z) (λ h. g.H.FlowHash.plain h) c.args.setup.now c.args.catalogue.now in
    let commands = map (λ l. l.items) c.args.commands.now in
    let nodes : List NodeRecord = c.in_ok-opened.opened.items in
    let runs : AreRuns rules c.args.packets.now c.args.ring 0 commands nodes = same_are_runs rules c.args.packets.now c.args.ring 0 commands nodes c.in_ok-run.run'.nodes.items c.in_ok-opened.ensures c.in_ok-run.ensures.runs in
    let slice : AreRuns rules c.args.packets.now c.args.ring 0 commands c.as_slice.result.now = subst (λ (ns : List NodeRecord). AreRuns rules c.args.packets.now c.args.ring 0 commands ns) (sym c.as_slice.ensures.value) runs in
    (runs, subst (λ (ns : List NodeRecord). JoinsRuns rules c.args.packets.now ns c.in_ok-history.history) c.as_slice.ensures.value (c.in_ok-history.ensures rules c.args.packets.now c.args.ring commands slice))

pub returns-clause-agreement : goal.returns-clause-agreement
returns-clause-agreement g c = λ steady.
    let rules : Rules = rules_for (λ s z. g.S.Scheme.pick s z) (λ h. g.H.FlowHash.plain h) c.args.setup.now c.args.catalogue.now in
    let joined = (returns-clause-runs g c).1 in
    subst (λ (os : List Outcome). Agreement rules os) (sym joined.told) (agreement rules steady c.args.packets.now c.in_ok-history.history.events.items)

pub returns-clause-keeping : goal.returns-clause-keeping
returns-clause-keeping g c =
    let rules : Rules = rules_for (λ s z. g.S.Scheme.pick s z) (λ h. g.H.FlowHash.plain h) c.args.setup.now c.args.catalogue.now in
    let joined = (returns-clause-runs g c).1 in
    subst (λ (os : List Outcome). Keeping rules [] c.args.packets.now c.in_ok-history.history.events.items os) (sym joined.told) (keeping rules [] c.args.packets.now c.in_ok-history.history.events.items)

pub returns-clause-stats : goal.returns-clause-stats
returns-clause-stats g c = λ read.
    let joined = (returns-clause-runs g c).1 in
    let same : all_outcomes c.in_ok-opened.opened.items ≡ all_outcomes c.in_ok-run.run'.nodes.items = same_outcomes c.in_ok-opened.opened.items c.in_ok-run.run'.nodes.items c.in_ok-opened.ensures in
    subst (λ (os : List Outcome). AreTotals c.in_ok-run.run'.stats os) (sym (joined.outcomes ∙ same)) (c.in_ok-run.ensures.stats read)

pub returns-in_err-run-clause-told : goal.returns-in_err-run-clause-told
returns-in_err-run-clause-told g c = err_exit _ c.from_residual.result c.in_err-run.field-0.0 c.from_residual.ensures.1 c.in_err-run.ensures.told

pub returns-in_err-history-clause-told : goal.returns-in_err-history-clause-told
returns-in_err-history-clause-told g c =
    let all = asked_all c.args.setup.now c.args.catalogue.now c.args.packets.now c.args.ring (map (λ l. l.items) c.args.commands.now) in
    err_exit _ c.from_residual-in_err-history.result Memory c.from_residual-in_err-history.ensures.1 (refused (λ x y. g.S.PartialEq.eq x y) (rules_for (λ s z. g.S.Scheme.pick s z) (λ h. g.H.FlowHash.plain h) all.setup all.catalogue) all Memory tt)

pub returns-in_err-opened-clause-told : goal.returns-in_err-opened-clause-told
returns-in_err-opened-clause-told g c =
    let all = asked_all c.args.setup.now c.args.catalogue.now c.args.packets.now c.args.ring (map (λ l. l.items) c.args.commands.now) in
    err_exit _ c.from_residual-in_err-opened.result Memory c.from_residual-in_err-opened.ensures.1 (refused (λ x y. g.S.PartialEq.eq x y) (rules_for (λ s z. g.S.Scheme.pick s z) (λ h. g.H.FlowHash.plain h) all.setup all.catalogue) all Memory tt)
