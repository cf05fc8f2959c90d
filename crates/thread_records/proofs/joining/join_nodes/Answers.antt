use Rattle.std.proofs.Common.{[], List, sym, ap, ◌∙◌}
use Rattle.cluster_node.specs.declared.events.Event.{Event}
use Rattle.cluster_core.specs.Runs.{verdicts}
use Rattle.thread_records.specs.Histories.{past_of}
use Rattle.thread_records.proofs.Joins.{whole, own, both_ok}
use Rattle.cluster_core.proofs.Nodes.{if_ok_map}
use Rattle.thread_records.proofs.joining.join_nodes.Goals as goal

pub returns-clause-told : goal.returns-clause-told
returns-clause-told c = λ rules packets t.
    both_ok c.join_all.result (λ h e o. o ∙ whole rules packets c.args.nodes.now t ∙ ap (λ (es : List Event). verdicts rules [] packets es) (sym e)) c.join_all.ensures.events c.join_all.ensures.outcomes

pub returns-clause-own : goal.returns-clause-own
returns-clause-own c = λ rules packets t.
    if_ok_map c.join_all.result (λ h e. λ n r k. ap (λ (es : List Event). past_of rules packets n es) e ∙ own rules packets c.args.nodes.now n r t k) c.join_all.ensures.events
