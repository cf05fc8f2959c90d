use Rattle.std.proofs.Common.{◌≡◌, ◌++◌, List, Option, length, map}
use Rattle.std.specs.Prelude.{All, None, IsSomeAnd}
use Rattle.cluster_core.specs.Setups.{rules_for}
use Rattle.thread_roles.specs.Assigned.{asked_in}
use Rattle.thread_roles.specs.Faults.{IsRefusal}
use Rattle.thread_roles.specs.declared.fault.RunFault.{RunFault}
use Rattle.node_threads.specs.Orders.{asked_one}
use Rattle.node_threads.specs.PrivateClusters.{AreNumbered, AreCounted, IsSumUp}
use Rattle.node_threads.specs.Reported.{AreTold}
use Rattle.node_threads.proofs.cluster.run_drivers.Given as goal

abbrev pub invariant-loop-handle : goal.invariant-loop-handle
invariant-loop-handle g l = record {
  same : All (λ h. let asked = asked_in h.promise.assignment in asked ≡ asked_one l.fn.order asked.node asked.commands) l.handle-iterator.rest.items;
  numbered : AreNumbered (length l.yielded) (map (λ h. h.promise.assignment.node) l.handle-iterator.rest.items);
  lists : l.initial.joined.fault ≡ None → map (λ h. h.promise.assignment.commands.now) l.yielded ++ map (λ h. h.promise.assignment.commands.now) l.handle-iterator.rest.items ≡ l.fn.order.commands;
  started : l.joined.fault ≡ None → l.initial.joined.fault ≡ None;
  so_far : l.joined.fault ≡ None → AreCounted (rules_for (λ s z. g.S.Scheme.pick s z) (λ h. g.H.FlowHash.plain h) l.fn.order.setup l.fn.order.catalogue) l.fn.order (map (λ h. h.promise.assignment.commands.now) l.yielded) l.joined.nodes.items l.joined.stats;
  refused : IsSomeAnd l.initial.joined.fault (λ fault. IsRefusal fault) → IsSomeAnd l.joined.fault (λ fault. IsRefusal fault);
  told : l.initial.joined.fault ≡ None → (fs : List (Option RunFault)) × AreTold (λ x y. g.S.PartialEq.eq x y) (rules_for (λ s z. g.S.Scheme.pick s z) (λ h. g.H.FlowHash.plain h) l.fn.order.setup l.fn.order.catalogue) l.fn.order 0 (map (λ h. h.promise.assignment.commands.now) l.yielded) fs × IsSumUp fs l.joined.fault;
}
