use Rattle.std.proofs.Common.{arith}
use Rattle.std.proofs.lemmas.Grind.{common_steps}
use Rattle.cluster_node.proofs.steps.serve_one.Goals as goal

pub returns-then-is_idle-clause-outcome : goal.returns-then-is_idle-clause-outcome
returns-then-is_idle-clause-outcome g c = grind (arith, common_steps)

pub returns-then-is_idle-clause-after : goal.returns-then-is_idle-clause-after
returns-then-is_idle-clause-after g c = grind (arith, common_steps)

pub returns-then-not-installed-clause-outcome : goal.returns-then-not-installed-clause-outcome
returns-then-not-installed-clause-outcome g c = grind (arith, common_steps)

pub returns-then-not-installed-clause-after : goal.returns-then-not-installed-clause-after
returns-then-not-installed-clause-after g c = grind (arith, common_steps)

pub returns-in_default-clause-outcome : goal.returns-in_default-clause-outcome
returns-in_default-clause-outcome g c = grind (arith, common_steps)

pub returns-in_default-clause-after : goal.returns-in_default-clause-after
returns-in_default-clause-after g c = grind (arith, common_steps)

pub returns-in_err-taken-clause-outcome : goal.returns-in_err-taken-clause-outcome
returns-in_err-taken-clause-outcome g c = grind (arith, common_steps)

pub returns-in_err-taken-clause-after : goal.returns-in_err-taken-clause-after
returns-in_err-taken-clause-after g c = grind (arith, common_steps)

pub returns-clause-outcome : goal.returns-clause-outcome
returns-clause-outcome g c = grind (arith, common_steps)

pub returns-clause-after : goal.returns-clause-after
returns-clause-after g c = grind (arith, common_steps)
