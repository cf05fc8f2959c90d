use Rattle.std.proofs.Common.{◌≡◌, ◌++◌, ◌∷◌, [], ℕ, List, length, map, take, slice_index_or, refl, sym, subst, ap, ◌∙◌, arith}
use Rattle.std.specs.Prelude.{All}
use Rattle.std.specs.declared.thread.PromisedHandle.{PromisedHandle}
use Rattle.std.proofs.lemmas.List.{map_push, length_push, length-map, take_more}
use Rattle.std.proofs.lemmas.List.Elements.{All-push}
use Rattle.thread_records.specs.declared.command.Command.{Command}
use Rattle.thread_roles.specs.Assigned.{asked_in}
use Rattle.thread_roles.specs.Going.{Asked}
use Rattle.node_threads.specs.declared.order.OfNode.{OfNode}
use Rattle.node_threads.specs.Orders.{AllAsked, asked_one}
use Rattle.node_threads.specs.PrivateClusters.{AreNumbered}
use Rattle.node_threads.proofs.Clusters.{numbered_more}
use Rattle.node_threads.proofs.cluster.start_drivers.Goals as goal

pub loop-node-preserved : goal.loop-node-preserved
loop-node-preserved g c =
    let had = c.loop-node.invariant in
    let all : AllAsked _ _ = c.args.order.now in
    let h = c.in-Ok.handle in
    let old : List (PromisedHandle _ (OfNode _ _ _)) = c.loop-node.handles.items in
    let here : List Command = slice_index_or all.commands c.loop-node.node [] in
    let is : asked_in h.promise.assignment ≡ asked_one all c.loop-node.node here
    = ap (λ (p : OfNode _ _ _). asked_in p.assignment) c.in-Ok.ensures.ok ∙ c.order_of-own.ensures in
    let items : c.push_reserved.new.self.items ≡ old ++ h ∷ [] = c.push_reserved.ensures.items ∙ ap (λ (l : List (PromisedHandle _ (OfNode _ _ _))). l ++ h ∷ []) c.reserve.ensures.items in
    let node : h.promise.assignment.node ≡ c.loop-node.node = ap (λ (a : Asked _ _). a.node) is in
    let own : asked_in h.promise.assignment ≡ asked_one all h.promise.assignment.node h.promise.assignment.commands.now = subst (λ (a : Asked _ _). a ≡ asked_one all a.node a.commands) (sym is) refl in
    let many : length (map (λ (x : PromisedHandle _ (OfNode _ _ _)). x.promise.assignment.node) old) ≡ length old = length-map old (λ (x : PromisedHandle _ (OfNode _ _ _)). x.promise.assignment.node) in
    let more : length c.push_reserved.new.self.items ≡ length (old ++ h ∷ []) = ap (λ (l : List (PromisedHandle _ (OfNode _ _ _))). length l) items in
    let pushed = length_push old h in
    record {
      same = subst (λ (l : List (PromisedHandle _ (OfNode _ _ _))). All (λ x. let asked = asked_in x.promise.assignment in asked ≡ asked_one all asked.node asked.commands) l) (sym items)
          (All-push (λ (x : PromisedHandle _ (OfNode _ _ _)). let asked = asked_in x.promise.assignment in asked ≡ asked_one all asked.node asked.commands) old h had.same own);
      numbered = subst (λ (l : List (PromisedHandle _ (OfNode _ _ _))). AreNumbered 0 (map (λ x. x.promise.assignment.node) l)) (sym items)
          (subst (λ (ns : List ℕ). AreNumbered 0 ns) (sym (map_push (λ (x : PromisedHandle _ (OfNode _ _ _)). x.promise.assignment.node) old h))
          (numbered_more 0 h.promise.assignment.node (map (λ (x : PromisedHandle _ (OfNode _ _ _)). x.promise.assignment.node) old) had.numbered (omega (arith, node, many, had.count))));
      count = omega (arith, more, pushed, had.count);
      lists = ap (λ (l : List (PromisedHandle _ (OfNode _ _ _))). map (λ x. x.promise.assignment.commands.now) l) items ∙ map_push (λ (x : PromisedHandle _ (OfNode _ _ _)). x.promise.assignment.commands.now) old h
          ∙ ap (λ (l : List (List Command)). l ++ h.promise.assignment.commands.now ∷ []) had.lists ∙ ap (λ (cs : List Command). take c.loop-node.node all.commands ++ cs ∷ []) (ap (λ (a : Asked _ _). a.commands) is)
          ∙ sym (take_more all.commands c.loop-node.node [] (omega (arith, c.nodes-node-end.ensures.is, c.loop-node-test.true)));
    }
