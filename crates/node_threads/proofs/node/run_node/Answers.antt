use Rattle.std.proofs.Common.{List, sym, subst}
use Rattle.cluster_node.specs.Rules.{Rules}
use Rattle.cluster_node.specs.declared.outcomes.Outcome.{Outcome}
use Rattle.cluster_core.specs.Setups.{rules_for}
use Rattle.thread_records.proofs.Leans.{same_is_run}
use Rattle.thread_roles.specs.Counts.{AreTotals}
use Rattle.thread_roles.specs.Going.{Asked, asked_of}
use Rattle.thread_roles.specs.declared.fault.RunFault.TheVariants.{Memory}
use Rattle.node_threads.proofs.Telling.{err_exit, memory_tells}
use Rattle.node_threads.proofs.node.run_node.Goals as goal

pub returns-clause-run : goal.returns-clause-run
returns-clause-run g c =
    let rules : Rules = rules_for (λ s z. g.S.Scheme.pick s z) (λ h. g.H.FlowHash.plain h) c.args.setup.now c.args.catalogue.now in
    same_is_run rules c.args.packets.now c.args.node c.args.ring c.args.commands.now c.in_ok-opened.opened c.in_ok-run.run'.record c.in_ok-opened.ensures c.in_ok-run.ensures.run

pub returns-clause-stats : goal.returns-clause-stats
returns-clause-stats g c = λ read. subst (λ (os : List Outcome). AreTotals c.in_ok-run.run'.stats os) (sym c.in_ok-opened.ensures.outcomes) (c.in_ok-run.ensures.stats read)

pub returns-in_err-run-clause-told : goal.returns-in_err-run-clause-told
returns-in_err-run-clause-told g c = err_exit _ c.from_residual.result c.in_err-run.field-0.0 c.from_residual.ensures.1 c.in_err-run.ensures.told

pub returns-in_err-opened-clause-told : goal.returns-in_err-opened-clause-told
returns-in_err-opened-clause-told g c =
    let asked : Asked _ _ = asked_of c.args.setup.now c.args.catalogue.now c.args.packets.now c.args.node c.args.ring c.args.commands.now in
    let rules : Rules = rules_for (λ s z. g.S.Scheme.pick s z) (λ h. g.H.FlowHash.plain h) asked.setup asked.catalogue in
    err_exit _ c.from_residual-in_err-opened.result Memory c.from_residual-in_err-opened.ensures.1 (memory_tells (λ x y. g.S.PartialEq.eq x y) rules asked)
