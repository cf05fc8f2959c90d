use Rattle.std.proofs.Common.{◌++◌, List, take, sym, ap, ◌∙◌}
use Rattle.cluster_node.specs.declared.events.Event.{Event}
use Rattle.cluster_node.specs.declared.outcomes.Outcome.{Outcome}
use Rattle.thread_records.specs.declared.nodes.NodeRecord.{NodeRecord}
use Rattle.thread_records.specs.Joins.{all_events, all_outcomes}
use Rattle.thread_records.proofs.Joins.{events_more, outcomes_more}
use Rattle.thread_records.proofs.joining.join_all.Goals as goal

pub loop-node-preserved : goal.loop-node-preserved
loop-node-preserved c =
    let nodes : List NodeRecord = c.args.nodes.now in
    let item : NodeRecord = c.node-item.result in (
      c.in_ok-extend_from_slice.ensures.items
          ∙ ap (λ (l : List Event). c.loop-node.events.items ++ l) c.as_slice.ensures.value
          ∙ ap (λ (l : List Event). l ++ item.events.items) c.loop-node.invariant.0
          ∙ ap (λ (r : NodeRecord). all_events (take c.loop-node.node-index nodes) ++ r.events.items) c.node-item.is
          ∙ sym (events_more nodes c.loop-node.node-index item c.loop-node-test.true),
      c.in_ok-extend_from_slice-2.ensures.items
          ∙ ap (λ (l : List Outcome). c.loop-node.outcomes.items ++ l) c.as_slice-in-loop-node.ensures.value
          ∙ ap (λ (l : List Outcome). l ++ item.outcomes.items) c.loop-node.invariant.1
          ∙ ap (λ (r : NodeRecord). all_outcomes (take c.loop-node.node-index nodes) ++ r.outcomes.items) c.node-item.is
          ∙ sym (outcomes_more nodes c.loop-node.node-index item c.loop-node-test.true),
    )
