use Rattle.std.proofs.Common.{arith}
use Rattle.std.proofs.lemmas.Grind.{common_steps}
use Rattle.cluster_node.proofs.steps.Node.install.Goals as goal

pub returns-then-not-known-clause-outcome : goal.returns-then-not-known-clause-outcome
returns-then-not-known-clause-outcome g c = grind (arith, common_steps)

pub returns-then-not-known-clause-after : goal.returns-then-not-known-clause-after
returns-then-not-known-clause-after g c = grind (arith, common_steps)

pub returns-then-not-known-clause-kept : goal.returns-then-not-known-clause-kept
returns-then-not-known-clause-kept g c = grind (arith, common_steps)

pub returns-then-version-self-clause-outcome : goal.returns-then-version-self-clause-outcome
returns-then-version-self-clause-outcome g c = grind (arith, common_steps)

pub returns-then-version-self-clause-after : goal.returns-then-version-self-clause-after
returns-then-version-self-clause-after g c = grind (arith, common_steps)

pub returns-then-version-self-clause-kept : goal.returns-then-version-self-clause-kept
returns-then-version-self-clause-kept g c = grind (arith, common_steps)

pub returns-in_err-reserve-clause-outcome : goal.returns-in_err-reserve-clause-outcome
returns-in_err-reserve-clause-outcome g c = grind (arith, common_steps)

pub returns-in_err-reserve-clause-after : goal.returns-in_err-reserve-clause-after
returns-in_err-reserve-clause-after g c = grind (arith, common_steps)

pub returns-in_err-reserve-clause-kept : goal.returns-in_err-reserve-clause-kept
returns-in_err-reserve-clause-kept g c = grind (arith, common_steps)

pub returns-in_err-insert-clause-outcome : goal.returns-in_err-insert-clause-outcome
returns-in_err-insert-clause-outcome g c = grind (arith, common_steps)

pub returns-in_err-insert-clause-after : goal.returns-in_err-insert-clause-after
returns-in_err-insert-clause-after g c = grind (arith, common_steps)

pub returns-in_err-insert-clause-kept : goal.returns-in_err-insert-clause-kept
returns-in_err-insert-clause-kept g c = grind (arith, common_steps)

pub returns-in_err-insert-2-clause-outcome : goal.returns-in_err-insert-2-clause-outcome
returns-in_err-insert-2-clause-outcome g c = grind (arith, common_steps)

pub returns-in_err-insert-2-clause-after : goal.returns-in_err-insert-2-clause-after
returns-in_err-insert-2-clause-after g c = grind (arith, common_steps)

pub returns-in_err-insert-2-clause-kept : goal.returns-in_err-insert-2-clause-kept
returns-in_err-insert-2-clause-kept g c = grind (arith, common_steps)

pub returns-clause-outcome : goal.returns-clause-outcome
returns-clause-outcome g c = grind (arith, common_steps)

pub returns-clause-after : goal.returns-clause-after
returns-clause-after g c = grind (arith, common_steps)

pub returns-clause-kept : goal.returns-clause-kept
returns-clause-kept g c = grind (arith, common_steps)
