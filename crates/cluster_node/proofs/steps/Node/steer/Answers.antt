use Rattle.std.proofs.Common.{arith}
use Rattle.std.proofs.lemmas.Grind.{common_steps}
use Rattle.cluster_node.proofs.steps.Node.steer.Goals as goal

pub returns-then-floor-eq0-clause-outcome : goal.returns-then-floor-eq0-clause-outcome
returns-then-floor-eq0-clause-outcome g c = grind (arith, common_steps)

pub returns-then-floor-eq0-clause-after : goal.returns-then-floor-eq0-clause-after
returns-then-floor-eq0-clause-after g c = grind (arith, common_steps)

pub returns-then-floor-eq0-clause-kept : goal.returns-then-floor-eq0-clause-kept
returns-then-floor-eq0-clause-kept g c = grind (arith, common_steps)

pub returns-in_default-clause-outcome : goal.returns-in_default-clause-outcome
returns-in_default-clause-outcome g c = grind (arith, common_steps)

pub returns-in_default-clause-after : goal.returns-in_default-clause-after
returns-in_default-clause-after g c = grind (arith, common_steps)

pub returns-in_default-clause-kept : goal.returns-in_default-clause-kept
returns-in_default-clause-kept g c = grind (arith, common_steps)

pub returns-in-RingsFull-clause-outcome : goal.returns-in-RingsFull-clause-outcome
returns-in-RingsFull-clause-outcome g c = grind (arith, common_steps)

pub returns-in-RingsFull-clause-after : goal.returns-in-RingsFull-clause-after
returns-in-RingsFull-clause-after g c = grind (arith, common_steps)

pub returns-in-RingsFull-clause-kept : goal.returns-in-RingsFull-clause-kept
returns-in-RingsFull-clause-kept g c = grind (arith, common_steps)

pub returns-in-Ok-clause-outcome : goal.returns-in-Ok-clause-outcome
returns-in-Ok-clause-outcome g c = grind (arith, common_steps)

pub returns-in-Ok-clause-after : goal.returns-in-Ok-clause-after
returns-in-Ok-clause-after g c = grind (arith, common_steps)

pub returns-in-Ok-clause-kept : goal.returns-in-Ok-clause-kept
returns-in-Ok-clause-kept g c = grind (arith, common_steps)
