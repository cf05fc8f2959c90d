use Rattle.std.proofs.Common.{◌≡◌, ◌++◌, ◌∷◌, [], ℕ, List, Option, Result, None, length, map, sym, subst, ap, ◌∙◌, arith, rules}
use Rattle.std.specs.Prelude.{All, MatchResult}
use Rattle.std.specs.declared.thread.PromisedHandle.{PromisedHandle}
use Rattle.std.proofs.lemmas.List.{map_push, length_push, length-map, append_assoc}
use Rattle.std.proofs.lemmas.List.Elements.{All-head, All-rest}
use Rattle.cluster_node.specs.Rules.{Rules}
use Rattle.cluster_core.specs.Setups.{rules_for}
use Rattle.thread_records.specs.declared.command.Command.{Command}
use Rattle.thread_records.specs.declared.nodes.NodeRecord.{NodeRecord}
use Rattle.thread_records.proofs.Paced.{none_of_none}
use Rattle.thread_roles.specs.Assigned.{asked_in}
use Rattle.thread_roles.specs.Going.{Asked}
use Rattle.thread_roles.specs.declared.fault.RunFault.{RunFault}
use Rattle.node_threads.specs.declared.order.OfNode.{OfNode}
use Rattle.node_threads.specs.declared.run.LeanRun.{LeanRun}
use Rattle.node_threads.specs.Handed.{IsCounted}
use Rattle.node_threads.specs.Orders.{AllAsked, asked_one}
use Rattle.node_threads.specs.PrivateClusters.{AreNumbered, AreCounted, fault_in, IsSumUp}
use Rattle.node_threads.specs.Reported.{IsTold, AreTold}
use Rattle.node_threads.specs.Told.{NodeTells}
use Rattle.node_threads.proofs.Clusters.{none_left, counted_more}
use Rattle.node_threads.proofs.Totals.{totals_none}
use Rattle.node_threads.proofs.Reporting.{none_yet, answer_told, told_more, reported}
use Rattle.node_threads.proofs.cluster.run_drivers.Goals as goal

pub loop-handle-preserved : goal.loop-handle-preserved
loop-handle-preserved g c =
    let had = c.loop-handle.invariant in
    let all : AllAsked _ _ = c.args.order in
    let own : Rules = rules_for (λ s z. g.S.Scheme.pick s z) (λ h. g.H.FlowHash.plain h) all.setup all.catalogue in
    let h = c.in-Some.handle in
    let p = h.promise in
    let rest : List (PromisedHandle _ (OfNode _ _ _)) = c.next.new.self.rest.items in
    let done : List (PromisedHandle _ (OfNode _ _ _)) = c.loop-handle.yielded in
    let old = map (λ (x : PromisedHandle _ (OfNode _ _ _)). x.promise.assignment.commands.now) done in
    let is : c.loop-handle.handle-iterator.rest.items ≡ h ∷ rest = search rules in
    let asked : Asked _ _ = asked_one all p.assignment.node p.assignment.commands.now in
    let same : asked_in p.assignment ≡ asked = All-head (λ (x : PromisedHandle _ (OfNode _ _ _)). let asked = asked_in x.promise.assignment in asked ≡ asked_one all asked.node asked.commands) h rest (subst (λ (l : List (PromisedHandle _ (OfNode _ _ _))). All (λ x. let asked = asked_in x.promise.assignment in asked ≡ asked_one all asked.node asked.commands) l) is had.same) in
    let numbered : AreNumbered (length done) (p.assignment.node ∷ map (λ (x : PromisedHandle _ (OfNode _ _ _)). x.promise.assignment.node) rest)
    = subst (λ (l : List (PromisedHandle _ (OfNode _ _ _))). AreNumbered (length done) (map (λ x. x.promise.assignment.node) l)) is had.numbered in
    let place : p.assignment.node ≡ length old = numbered.0 ∙ sym (length-map done (λ (x : PromisedHandle _ (OfNode _ _ _)). x.promise.assignment.commands.now)) in
    let answer : MatchResult c.join.result (λ run. IsCounted own asked run.record run.stats) (λ fault. NodeTells (λ x y. g.S.PartialEq.eq x y) own asked fault)
    = subst (λ (a : Asked _ _). MatchResult c.join.result (λ run. IsCounted (rules_for (λ s z. g.S.Scheme.pick s z) (λ h. g.H.FlowHash.plain h) a.setup a.catalogue) a run.record run.stats)
    (λ fault. NodeTells (λ x y. g.S.PartialEq.eq x y) (rules_for (λ s z. g.S.Scheme.pick s z) (λ h. g.H.FlowHash.plain h) a.setup a.catalogue) a fault)) same c.join.ensures in
    let handed : (none : c.keep.new.self.fault ≡ None) → IsCounted own asked (c.keep.ensures.kept none).1.0.record (c.keep.ensures.kept none).1.0.stats
    = λ none. subst (λ (a : Result (LeanRun) RunFault). MatchResult a (λ run. IsCounted own asked run.record run.stats)
    (λ fault. NodeTells (λ x y. g.S.PartialEq.eq x y) own asked fault)) (c.keep.ensures.kept none).1.1 answer in
    record {
      same = All-rest (λ (x : PromisedHandle _ (OfNode _ _ _)). let asked = asked_in x.promise.assignment in asked ≡ asked_one all asked.node asked.commands) h rest c.loop-handle.handle-iterator.rest.items is had.same;
      numbered = subst (λ (n : ℕ). AreNumbered n (map (λ (x : PromisedHandle _ (OfNode _ _ _)). x.promise.assignment.node) rest)) (sym (length_push done h)) numbered.1;
      lists = λ none. ap (λ (cs : List (List Command)). cs ++ map (λ (x : PromisedHandle _ (OfNode _ _ _)). x.promise.assignment.commands.now) rest) (map_push (λ (x : PromisedHandle _ (OfNode _ _ _)). x.promise.assignment.commands.now) done h) ∙ append_assoc old (p.assignment.commands.now ∷ []) (map (λ (x : PromisedHandle _ (OfNode _ _ _)). x.promise.assignment.commands.now) rest)
          ∙ ap (λ (cs : List (List Command)). old ++ cs) (sym (ap (λ (l : List (PromisedHandle _ (OfNode _ _ _))). map (λ x. x.promise.assignment.commands.now) l) is)) ∙ had.lists none;
      started = λ none. had.started (c.keep.ensures.kept none).0;
      so_far = λ none. subst (λ (cs : List (List Command)). AreCounted own all cs c.keep.new.self.nodes.items c.keep.new.self.stats) (sym (map_push (λ (x : PromisedHandle _ (OfNode _ _ _)). x.promise.assignment.commands.now) done h))
          (let kept = c.keep.ensures.kept none in
          counted_more own all p.assignment.node old p.assignment.commands.now c.loop-handle.joined.nodes.items _ kept.1.0.record c.loop-handle.joined.stats kept.1.0.stats _ (had.so_far kept.0) place (handed none) kept.1.2 kept.1.3);
      refused = λ lost. c.keep.ensures.refused (had.refused lost);
      told = λ none.
          let t = had.told none in
          let one_told : IsTold (λ x y. g.S.PartialEq.eq x y) own asked (fault_in c.join.result)
          = answer_told (λ x y. g.S.PartialEq.eq x y) own asked (λ run. IsCounted own asked run.record run.stats) (λ run. run.record) c.join.result (λ run is. is.run) answer in (
            t.0 ++ fault_in c.join.result ∷ [],
            subst (λ (cs : List (List Command)). AreTold (λ x y. g.S.PartialEq.eq x y) own all 0 cs (t.0 ++ fault_in c.join.result ∷ [])) (sym (map_push (λ (x : PromisedHandle _ (OfNode _ _ _)). x.promise.assignment.commands.now) done h))
                (told_more (λ x y. g.S.PartialEq.eq x y) own all 0 p.assignment.node old p.assignment.commands.now t.0 (fault_in c.join.result) t.1 (omega (arith, place)) one_told),
            c.keep.ensures.told t.0 t.2,
          );
    }

pub loop-handle-init : goal.loop-handle-init
loop-handle-init g c =
    let drivers = c.start_drivers-drivers.ensures in
    let all : AllAsked _ _ = c.args.order in
    let items : c.into_iter-handle-iterator.result.rest.items ≡ c.start_drivers-drivers.result.handles.items = c.into_iter-handle-iterator.ensures.into_iter_gives.0 in
    record {
      same = subst (λ (l : List (PromisedHandle _ (OfNode _ _ _))). All (λ x. let asked = asked_in x.promise.assignment in asked ≡ asked_one all asked.node asked.commands) l) (sym items) drivers.same;
      numbered = subst (λ (l : List (PromisedHandle _ (OfNode _ _ _))). AreNumbered 0 (map (λ x. x.promise.assignment.node) l)) (sym items) drivers.numbered;
      lists = λ none. ap (λ (l : List (PromisedHandle _ (OfNode _ _ _))). map (λ x. x.promise.assignment.commands.now) l) items ∙ drivers.lists none;
      started = λ none. none;
      so_far = λ none. subst (λ (rs : List NodeRecord). AreCounted (rules_for (λ s z. g.S.Scheme.pick s z) (λ h. g.H.FlowHash.plain h) all.setup all.catalogue) all [] rs c.new-2.result) (sym c.new.ensures.items) (record { runs = tt; counts = λ read. totals_none c.new-2.result c.new-2.ensures.received c.new-2.ensures.forwarded c.new-2.ensures.dropped c.new-2.ensures.waiting; unmarked = λ paced. none_of_none });
      refused = λ lost. lost;
      told = λ none. ([], tt, subst (λ (f : Option RunFault). IsSumUp [] f) (sym none) none_yet);
    }

pub returns-in-Some-fault : goal.returns-in-Some-fault
returns-in-Some-fault g c =
    let all : AllAsked _ _ = c.args.order in
    let own : Rules = rules_for (λ s z. g.S.Scheme.pick s z) (λ h. g.H.FlowHash.plain h) all.setup all.catalogue in
    let had = c.loop-handle.invariant in
    let rest : List (PromisedHandle _ (OfNode _ _ _)) = c.loop-handle.handle-iterator.rest.items in
    let ended : length c.loop-handle.handle-iterator.rest.items ≡ 0 = search rules in
    let old : List (List Command) = map (λ (x : PromisedHandle _ (OfNode _ _ _)). x.promise.assignment.commands.now) c.loop-handle.yielded in
    reported (λ x y. g.S.PartialEq.eq x y) own all c.start_drivers-drivers.result.fault c.loop-handle.joined.fault c.in-Some-fault.fault c.in-Some-fault.is c.start_drivers-drivers.ensures.fault had.refused
    (λ none. let t = had.told none in
    (t.0, subst (λ (cs : List (List Command)). AreTold (λ x y. g.S.PartialEq.eq x y) own all 0 cs t.0) (sym (none_left (λ (x : PromisedHandle _ (OfNode _ _ _)). x.promise.assignment.commands.now) rest old ended) ∙ had.lists none) t.1, t.2))
