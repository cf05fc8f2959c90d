use Rattle.cluster_node.specs.Rules.{Rules}
use Rattle.std.proofs.Common.{◌∙◌}
use Rattle.cluster_core.specs.Setups.{rules_for}
use Rattle.thread_roles.specs.Assigned.{asked_in}
use Rattle.thread_roles.specs.Going.{Asked}
use Rattle.node_threads.proofs.Settled.{settled}
use Rattle.node_threads.proofs.Totals.{totals_are}
use Rattle.node_threads.proofs.node.run_alone.Goals as goal

pub returns-clause-stats : goal.returns-clause-stats
returns-clause-stats g c = λ read.
    let done = c.in_ok-done.done in
    let asked : Asked _ _ = asked_in c.args.order.assignment in
    let rules : Rules = rules_for (λ s z. g.S.Scheme.pick s z) (λ h. g.H.FlowHash.plain h) asked.setup asked.catalogue in
    totals_are done.record.outcomes.items _ done.shares _ _
    (settled rules asked.packets asked.node asked.ring asked.commands done.record c.args.order.there read c.in_ok-done.ensures.run)
    (c.in_ok-done.ensures.counts read) c.audit.ensures.whole (c.stats.ensures ∙ c.audit.ensures.same.0)
