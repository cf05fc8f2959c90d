use Rattle.std.proofs.Common.{arith}
use Rattle.std.proofs.lemmas.Grind.{common_steps}
use Rattle.cluster_node.proofs.steps.Node.pass_packet.Goals as goal

pub returns-in-Bad-clause-passed : goal.returns-in-Bad-clause-passed
returns-in-Bad-clause-passed g c = grind (arith, common_steps)

pub returns-in-Bad-clause-after : goal.returns-in-Bad-clause-after
returns-in-Bad-clause-after g c = grind (arith, common_steps)

pub returns-in-Bad-clause-kept : goal.returns-in-Bad-clause-kept
returns-in-Bad-clause-kept g c = grind (arith, common_steps)

pub returns-in-Good-clause-passed : goal.returns-in-Good-clause-passed
returns-in-Good-clause-passed g c = grind (arith, common_steps)

pub returns-in-Good-clause-after : goal.returns-in-Good-clause-after
returns-in-Good-clause-after g c = grind (arith, common_steps)

pub returns-in-Good-clause-kept : goal.returns-in-Good-clause-kept
returns-in-Good-clause-kept g c = grind (arith, common_steps)
