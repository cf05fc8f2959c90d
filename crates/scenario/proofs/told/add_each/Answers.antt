use Rattle.std.proofs.Common.{◌++◌, [], ◌∷◌, List, map, ap, sym, ◌∙◌, arith, append_assoc}
use Rattle.std.specs.List.{range_with_len}
use Rattle.std.proofs.lemmas.List.{map-append}
use Rattle.std.proofs.lemmas.List.FromFn.{map-range_with_len_more}
use Rattle.scenario.specs.Steps.{PlainStep, plain_step, plain_timed}
use Rattle.scenario.specs.Told.{at_node}
use Rattle.timed_steps.specs.declared.TimedStep.TheVariants.{Counted}
use Rattle.scenario.proofs.told.add_each.Goals as goal

pub loop-node-preserved : goal.loop-node-preserved
loop-node-preserved c =
    let done = map (at_node c.args.each) (range_with_len 0 c.loop-node.node) in
    ap (map plain_timed) c.in-Ok.ensures.items
    ∙ map-append plain_timed c.loop-node.steps.items (Counted c.at_node.result ∷ [])
    ∙ ap (λ (l : List PlainStep). l ++ plain_step c.at_node.result ∷ []) c.loop-node.invariant
    ∙ append_assoc (map plain_timed c.args.steps.now.items) done (plain_step c.at_node.result ∷ [])
    ∙ ap (λ (s : PlainStep). map plain_timed c.args.steps.now.items ++ (done ++ s ∷ [])) c.at_node.ensures
    ∙ ap (λ (l : List PlainStep). map plain_timed c.args.steps.now.items ++ l) (sym (map-range_with_len_more (at_node c.args.each) 0 c.loop-node.node c.loop-node.node (omega arith)))
