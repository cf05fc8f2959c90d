use Rattle.std.proofs.Common.{arith}
use Rattle.std.proofs.lemmas.Grind.{common_steps}
use Rattle.maglev_table.proofs.plain.written_out.Goals as goal

pub returns-in_err-written-clause-lists : goal.returns-in_err-written-clause-lists
returns-in_err-written-clause-lists c = grind (arith, common_steps)

pub returns-in_err-written-clause-full : goal.returns-in_err-written-clause-full
returns-in_err-written-clause-full c = grind (arith, common_steps)

pub loop-list-init : goal.loop-list-init
loop-list-init c = grind (arith, common_steps)

pub returns-in_err-list-clause-lists : goal.returns-in_err-list-clause-lists
returns-in_err-list-clause-lists c = grind (arith, common_steps)

pub returns-in_err-list-clause-full : goal.returns-in_err-list-clause-full
returns-in_err-list-clause-full c = grind (arith, common_steps)

pub returns-in_err-push-clause-lists : goal.returns-in_err-push-clause-lists
returns-in_err-push-clause-lists c = grind (arith, common_steps)

pub returns-in_err-push-clause-full : goal.returns-in_err-push-clause-full
returns-in_err-push-clause-full c = grind (arith, common_steps)

pub loop-list-preserved : goal.loop-list-preserved
loop-list-preserved c = grind (arith, common_steps)

pub returns-clause-lists : goal.returns-clause-lists
returns-clause-lists c = grind (arith, common_steps)

pub returns-clause-full : goal.returns-clause-full
returns-clause-full c = grind (arith, common_steps)
