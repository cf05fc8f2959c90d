use Rattle.std.proofs.Common.{◌≡◌, length, map, take}
use Rattle.std.specs.Prelude.{All}
use Rattle.thread_roles.specs.Assigned.{asked_in}
use Rattle.node_threads.specs.Orders.{asked_one}
use Rattle.node_threads.specs.PrivateClusters.{AreNumbered}
use Rattle.node_threads.proofs.cluster.start_drivers.Given as goal

abbrev pub invariant-loop-node : goal.invariant-loop-node
invariant-loop-node g l = record {
  same : All (λ h. let asked = asked_in h.promise.assignment in asked ≡ asked_one l.order asked.node asked.commands) l.handles.items;
  numbered : AreNumbered 0 (map (λ h. h.promise.assignment.node) l.handles.items);
  count : length l.handles.items ≡ l.node;
  lists : map (λ h. h.promise.assignment.commands.now) l.handles.items ≡ take l.node l.order.commands;
}
