use Rattle.std.proofs.Common.{map}
use Rattle.driver_commands.specs.PrivateTelling.{EndBelow}
use Rattle.driver_commands.proofs.ends.end_as.Given as goal

abbrev pub invariant-loop-node : goal.invariant-loop-node
invariant-loop-node l = EndBelow l.steps l.node (map (λ c. c.items) l.fn.commands.items) (map (λ c. c.items) l.commands.items)
