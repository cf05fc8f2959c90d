use Rattle.std.proofs.Common.{arith}
use Rattle.std.proofs.lemmas.Grind.{common_steps}
use Rattle.table_commands.proofs.compare_command.text_for.Goals as goal

pub returns-in_err-lists-clause-text : goal.returns-in_err-lists-clause-text
returns-in_err-lists-clause-text c = grind (arith, common_steps)

pub returns-in_err-lists-clause-fault : goal.returns-in_err-lists-clause-fault
returns-in_err-lists-clause-fault c = grind (arith, common_steps)

pub returns-in_err-lists-clause-unwritten : goal.returns-in_err-lists-clause-unwritten
returns-in_err-lists-clause-unwritten c = grind (arith, common_steps)

pub returns-in_err-before-clause-text : goal.returns-in_err-before-clause-text
returns-in_err-before-clause-text c = grind (arith, common_steps)

pub returns-in_err-before-clause-fault : goal.returns-in_err-before-clause-fault
returns-in_err-before-clause-fault c = grind (arith, common_steps)

pub returns-in_err-before-clause-unwritten : goal.returns-in_err-before-clause-unwritten
returns-in_err-before-clause-unwritten c = grind (arith, common_steps)

pub returns-in_err-after-clause-text : goal.returns-in_err-after-clause-text
returns-in_err-after-clause-text c = grind (arith, common_steps)

pub returns-in_err-after-clause-fault : goal.returns-in_err-after-clause-fault
returns-in_err-after-clause-fault c = grind (arith, common_steps)

pub returns-in_err-after-clause-unwritten : goal.returns-in_err-after-clause-unwritten
returns-in_err-after-clause-unwritten c = grind (arith, common_steps)

pub returns-in-Ok-clause-fault : goal.returns-in-Ok-clause-fault
returns-in-Ok-clause-fault c = grind (arith, common_steps)

pub returns-in-Ok-clause-unwritten : goal.returns-in-Ok-clause-unwritten
returns-in-Ok-clause-unwritten c = grind (arith, common_steps)

pub returns-clause-text : goal.returns-clause-text
returns-clause-text c = grind (arith, common_steps)

pub returns-clause-fault : goal.returns-clause-fault
returns-clause-fault c = grind (arith, common_steps)

pub returns-clause-unwritten : goal.returns-clause-unwritten
returns-clause-unwritten c = grind (arith, common_steps)
