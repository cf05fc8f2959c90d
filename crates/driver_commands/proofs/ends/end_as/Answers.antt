use Rattle.std.proofs.Common.{map, ap, ◌∙◌, arith, List, Bool}
use Rattle.std.proofs.lemmas.List.{length-map}
use Rattle.driver_commands.specs.Orders.{ended_by}
use Rattle.driver_commands.proofs.Ending.{end_none, end_more}
use Rattle.driver_commands.proofs.ends.end_as.Goals as goal

pub loop-node-init : goal.loop-node-init
loop-node-init c = end_none c.args.steps.now (map (λ v. v.items) c.args.commands.now.items)

pub loop-node-preserved : goal.loop-node-preserved
loop-node-preserved c =
    let old = length-map c.args.commands.now.items (λ v. v.items) in
    let now = length-map c.loop-node.commands.items (λ v. v.items) in
    end_more (λ v. v.items) c.args.steps.now c.loop-node.node (map (λ v. v.items) c.args.commands.now.items) c.loop-node.commands.items c.index_mut.result.now c.end_by.new.own
    (omega (arith, old, now, c.loop-node.invariant.many, c.requires)) c.index_mut.ensures.value
    (c.end_by.ensures ∙ ap (λ (ds : List Bool). ended_by ds c.index_mut.result.now.items) (c.as_slice.ensures.value ∙ c.in_ok-ends.ensures)) c.loop-node.invariant
