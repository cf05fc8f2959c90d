use Rattle.std.proofs.Common.{◌≡◌, true}
use Rattle.cluster_node.specs.Rules.{Rules}
use Rattle.cluster_core.specs.Setups.{rules_for}
use Rattle.thread_records.specs.Paced.{AreUnmarked}
use Rattle.thread_records.specs.Runs.{IsRunOf}
use Rattle.thread_roles.specs.Assigned.{asked_in}
use Rattle.thread_roles.specs.Counts.{AreRead, AreTotals}
use Rattle.thread_roles.specs.Going.{Asked}
use Rattle.node_threads.specs.Handed.{IsCounted}
use Rattle.node_threads.specs.Told.{NodeTells}
use Rattle.node_threads.proofs.Clusters.{by_clauses}
use Rattle.node_threads.proofs.cluster.fn.start_drivers.spawn_with.Goals as goal

pub returns : goal.returns
returns g c =
    let asked : Asked _ _ = asked_in c.captures.own.assignment in
    let rules : Rules = rules_for (λ s z. g.S.Scheme.pick s z) (λ h. g.H.FlowHash.plain h) asked.setup asked.catalogue in
    by_clauses (AreRead asked.packets) (asked.paced ≡ true)
    (λ r. IsRunOf rules asked.packets asked.node asked.ring asked.commands r.record)
    (λ r. AreTotals r.stats r.record.outcomes.items)
    (λ r. AreUnmarked r.record.events.items)
    (λ r. IsCounted rules asked r.record r.stats)
    (λ fault. NodeTells (λ x y. g.S.PartialEq.eq x y) rules asked fault)
    c.run_order.result
    (λ r run counts unmarked. record { run = run; counts = counts; unmarked = unmarked })
    c.run_order.ensures.run c.run_order.ensures.stats c.run_order.ensures.unmarked c.run_order.ensures.told
