use Rattle.std.proofs.Common.{arith}
use Rattle.std.proofs.lemmas.Grind.{common_steps}
use Rattle.table_commands.proofs.pick_command.input_of.Goals as goal

pub returns-in_err-bytes-clause-bytes : goal.returns-in_err-bytes-clause-bytes
returns-in_err-bytes-clause-bytes g c = grind (arith, common_steps)

pub returns-in_err-bytes-clause-short : goal.returns-in_err-bytes-clause-short
returns-in_err-bytes-clause-short g c = grind (arith, common_steps)

pub returns-in_err-bytes-clause-unfailed : goal.returns-in_err-bytes-clause-unfailed
returns-in_err-bytes-clause-unfailed g c = grind (arith, common_steps)

pub returns-in_err-bytes-clause-fault : goal.returns-in_err-bytes-clause-fault
returns-in_err-bytes-clause-fault g c = grind (arith, common_steps)

pub returns-in_err-bytes-clause-read : goal.returns-in_err-bytes-clause-read
returns-in_err-bytes-clause-read g c = grind (arith, common_steps)

pub returns-in_err-bytes-clause-unwritten : goal.returns-in_err-bytes-clause-unwritten
returns-in_err-bytes-clause-unwritten g c = grind (arith, common_steps)

pub returns-in_default-clause-bytes : goal.returns-in_default-clause-bytes
returns-in_default-clause-bytes g c = grind (arith, common_steps)

pub returns-in_default-clause-short : goal.returns-in_default-clause-short
returns-in_default-clause-short g c = grind (arith, common_steps)

pub returns-in_default-clause-unfailed : goal.returns-in_default-clause-unfailed
returns-in_default-clause-unfailed g c = grind (arith, common_steps)

pub returns-in_default-clause-fault : goal.returns-in_default-clause-fault
returns-in_default-clause-fault g c = grind (arith, common_steps)

pub returns-in_default-clause-read : goal.returns-in_default-clause-read
returns-in_default-clause-read g c = grind (arith, common_steps)

pub returns-in_default-clause-unwritten : goal.returns-in_default-clause-unwritten
returns-in_default-clause-unwritten g c = grind (arith, common_steps)

pub returns-then-count-gt-LONGEST-clause-bytes : goal.returns-then-count-gt-LONGEST-clause-bytes
returns-then-count-gt-LONGEST-clause-bytes g c = grind (arith, common_steps)

pub returns-then-count-gt-LONGEST-clause-short : goal.returns-then-count-gt-LONGEST-clause-short
returns-then-count-gt-LONGEST-clause-short g c = grind (arith, common_steps)

pub returns-then-count-gt-LONGEST-clause-fault : goal.returns-then-count-gt-LONGEST-clause-fault
returns-then-count-gt-LONGEST-clause-fault g c = grind (arith, common_steps)

pub returns-then-count-gt-LONGEST-clause-read : goal.returns-then-count-gt-LONGEST-clause-read
returns-then-count-gt-LONGEST-clause-read g c = grind (arith, common_steps)

pub returns-clause-bytes : goal.returns-clause-bytes
returns-clause-bytes g c = grind (arith, common_steps)

pub returns-clause-short : goal.returns-clause-short
returns-clause-short g c = grind (arith, common_steps)

pub returns-clause-unfailed : goal.returns-clause-unfailed
returns-clause-unfailed g c = grind (arith, common_steps)

pub returns-clause-fault : goal.returns-clause-fault
returns-clause-fault g c = grind (arith, common_steps)

pub returns-clause-read : goal.returns-clause-read
returns-clause-read g c = grind (arith, common_steps)

pub returns-clause-unwritten : goal.returns-clause-unwritten
returns-clause-unwritten g c = grind (arith, common_steps)
