use Rattle.std.proofs.Common.{arith}
use Rattle.std.proofs.lemmas.Grind.{common_steps}
use Rattle.cluster_node.proofs.steps.Node.serve.Goals as goal

pub returns-then-at-len-clause-after : goal.returns-then-at-len-clause-after
returns-then-at-len-clause-after g c = grind (arith, common_steps)

pub returns-then-at-len-clause-kept : goal.returns-then-at-len-clause-kept
returns-then-at-len-clause-kept g c = grind (arith, common_steps)

pub returns-clause-kept : goal.returns-clause-kept
returns-clause-kept g c = grind (arith, common_steps)
