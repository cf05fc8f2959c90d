use Rattle.std.proofs.Common.{List, [], ◌∷◌, ◌++◌, map, ap, ◌∙◌}
use Rattle.std.specs.Global.{Vec}
use Rattle.cluster_node.specs.declared.outcomes.Outcome.{Outcome}
use Rattle.outcome_list.specs.declared.kept.Kept.{Kept}
use Rattle.outcome_list.specs.Meant.{opened}
use Rattle.outcome_list.proofs.Lists.{same_list, list_more}
use Rattle.outcome_list.proofs.list.OutcomeList.push.Goals as goal

pub returns-in_default-clause-err : goal.returns-in_default-clause-err
returns-in_default-clause-err c =
    let was = c.self.inside in
    let now = c.keep.new in
    same_list was.backends now.backends was.sends.items now.sends.items was.lost.items now.lost.items c.keep.ensures.others was.kept.items c.self.invariant
    ∙ ap (λ (v : Vec Outcome). v.items) c.self.view_is

pub returns-in_default-push-clause-err : goal.returns-in_default-push-clause-err
returns-in_default-push-clause-err c =
    let was = c.self.inside in
    let now = c.keep.new in
    ap (λ (ks : List Kept). map (λ k. opened now.backends now.sends.items now.lost.items k) ks) c.in_default-push.ensures.items
    ∙ same_list was.backends now.backends was.sends.items now.sends.items was.lost.items now.lost.items c.keep.ensures.others was.kept.items c.self.invariant
    ∙ ap (λ (v : Vec Outcome). v.items) c.self.view_is

pub returns-clause-ok : goal.returns-clause-ok
returns-clause-ok c =
    let was = c.self.inside in
    let now = c.keep.new in
    ap (λ (ks : List Kept). map (λ k. opened now.backends now.sends.items now.lost.items k) ks) c.in-Ok-push.ensures.items
    ∙ list_more was.backends now.backends was.sends.items now.sends.items was.lost.items now.lost.items c.keep.ensures.others was.kept.items c.in-Ok.kept c.args.outcome.now c.self.invariant c.in-Ok.ensures.kept
    ∙ ap (λ (v : Vec Outcome). v.items ++ c.args.outcome.now ∷ []) c.self.view_is
