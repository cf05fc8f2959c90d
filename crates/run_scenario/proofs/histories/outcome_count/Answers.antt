use Rattle.std.proofs.Common.{◌≡◌, ◌+◌, List, length, take, ap, arith}
use Rattle.cluster_node.specs.declared.outcomes.Outcome.{Outcome}
use Rattle.thread_records.specs.declared.nodes.NodeRecord.{NodeRecord}
use Rattle.thread_records.specs.Joins.{all_outcomes}
use Rattle.run_scenario.proofs.OneByOne.{count_more}
use Rattle.run_scenario.proofs.histories.outcome_count.Goals as goal

pub loop-node-preserved : goal.loop-node-preserved
loop-node-preserved c =
    let item : NodeRecord = c.node-item.result in
    let more : length (all_outcomes (take (c.loop-node.node-index + 1) c.args.nodes.now)) ≡ length (all_outcomes (take c.loop-node.node-index c.args.nodes.now)) + length item.outcomes.items =
    count_more c.args.nodes.now c.loop-node.node-index item c.loop-node-test.true c.node-item.is in
    let long : length c.outcomes.result.now.items ≡ length item.outcomes.items = ap (λ (l : List Outcome). length l) c.outcomes.ensures in
    (omega (arith, c.in_ok-count.ensures.0, c.loop-node.invariant.0, c.len.ensures, more, long), c.in_ok-count.ensures.1)
