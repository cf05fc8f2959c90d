use Rattle.std.proofs.Common.{Bool, List, drop}
use Rattle.steering.specs.Steering.{home_of}
use Rattle.node_life.specs.PrivateHomes.{HaveHomes, Marks}
use Rattle.node_life.proofs.homes.Homes.of_life.Given as goal

abbrev pub invariant-loop-at : goal.invariant-loop-at
invariant-loop-at g l = (marks : List Bool) → Marks l.homes.marks marks →
    HaveHomes (λ x. home_of (g.H.FlowHash.plain l.fn.assignment.setup.now.hash) l.fn.assignment.setup.now.workers x) l.fn.assignment.packets.now marks (drop l.at l.fn.assignment.commands.now) →
    HaveHomes (λ x. home_of (g.H.FlowHash.plain l.fn.assignment.setup.now.hash) l.fn.assignment.setup.now.workers x) l.fn.assignment.packets.now marks (drop l.fn.from l.fn.assignment.commands.now)
