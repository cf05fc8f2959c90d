use Rattle.std.proofs.Common.{◌≡◌, ◌+◌, ◌∙◌, List, length, ap, arith}
use Rattle.cluster_core.specs.OutcomeCounts.{is_refused, how_many}
use Rattle.cluster_node.specs.declared.outcomes.Outcome.{Outcome}
use Rattle.run_scenario.proofs.OneByOne.{count_more, many_further, count_within}
use Rattle.run_scenario.proofs.histories.refused_by.Goals as goal

pub overflow_add-refused : goal.overflow_add-refused
overflow_add-refused c =
    let more = count_more c.args.nodes.now c.loop-node.node-index c.node-item.result c.loop-node-test.true c.node-item.is in
    let within = count_within c.args.nodes.now (c.loop-node.node-index + 1) in
    let slice : length c.outcomes.result.now.items ≡ length c.node-item.result.outcomes.items = ap (λ (l : List Outcome). length l) c.outcomes.ensures in
    omega (arith, more, within, slice, c.refused_in-refused.ensures.few, c.loop-node.invariant.1, c.requires)

pub loop-node-preserved : goal.loop-node-preserved
loop-node-preserved c =
    let item = c.node-item.result in
    let more = count_more c.args.nodes.now c.loop-node.node-index item c.loop-node-test.true c.node-item.is in
    let many = many_further (λ o. is_refused o) c.args.nodes.now c.loop-node.node-index item c.loop-node-test.true c.node-item.is in
    let slice : length c.outcomes.result.now.items ≡ length item.outcomes.items = ap (λ (l : List Outcome). length l) c.outcomes.ensures in
    let here : c.refused_in-refused.result ≡ how_many (λ o. is_refused o) item.outcomes.items = c.refused_in-refused.ensures.count ∙ ap (λ (l : List Outcome). how_many (λ o. is_refused o) l) c.outcomes.ensures in
    (omega (arith, many, here, c.loop-node.invariant.0), omega (arith, more, slice, c.refused_in-refused.ensures.few, c.loop-node.invariant.1))
