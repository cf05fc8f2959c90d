use Rattle.std.proofs.Common.{arith}
use Rattle.std.proofs.lemmas.Grind.{common_steps}
use Rattle.backend_names.proofs.name.is_name_text.Goals as goal

pub returns-in-empty : goal.returns-in-empty
returns-in-empty c = grind (arith, common_steps)

pub returns-then-rest-lt-LONGEST : goal.returns-then-rest-lt-LONGEST
returns-then-rest-lt-LONGEST c = grind (arith, common_steps)

pub returns-else-rest-lt-LONGEST : goal.returns-else-rest-lt-LONGEST
returns-else-rest-lt-LONGEST c = grind (arith, common_steps)
