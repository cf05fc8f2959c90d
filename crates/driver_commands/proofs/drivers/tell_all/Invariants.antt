use Rattle.std.proofs.Common.{◌≡◌, ℕ, List, ◌++◌, map, take}
use Rattle.cluster_node.specs.declared.events.Event.{Event}
use Rattle.driver_commands.specs.Orders.{orders_in}
use Rattle.driver_commands.proofs.drivers.tell_all.Given as goal

abbrev pub invariant-loop-said : goal.invariant-loop-said
invariant-loop-said l = (nodes : ℕ) (es : List Event) → map (λ c. c.items) l.initial.commands.items ≡ orders_in nodes es →
    map (λ c. c.items) l.commands.items ≡ orders_in nodes (es ++ map (λ s. s.event) (take l.said-index l.events))
