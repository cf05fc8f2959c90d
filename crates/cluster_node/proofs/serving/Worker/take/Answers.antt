use Rattle.std.proofs.Common.{rules}
use Rattle.cluster_node.proofs.serving.Worker.take.Goals as goal

pub returns-in_default-clause-taken : goal.returns-in_default-clause-taken
returns-in_default-clause-taken g c = search rules

pub returns-in_default-clause-after : goal.returns-in_default-clause-after
returns-in_default-clause-after g c = search rules

pub returns-then-number-item-clause-taken : goal.returns-then-number-item-clause-taken
returns-then-number-item-clause-taken g c = search rules

pub returns-then-number-item-clause-after : goal.returns-then-number-item-clause-after
returns-then-number-item-clause-after g c = search rules

pub returns-in_err-choice-clause-taken : goal.returns-in_err-choice-clause-taken
returns-in_err-choice-clause-taken g c = search rules

pub returns-in_err-choice-clause-after : goal.returns-in_err-choice-clause-after
returns-in_err-choice-clause-after g c = search rules

pub returns-clause-taken : goal.returns-clause-taken
returns-clause-taken g c = search rules

pub returns-clause-after : goal.returns-clause-after
returns-clause-after g c = search rules
