use Rattle.std.proofs.Common.{arith}
use Rattle.std.proofs.lemmas.Grind.{common_steps}
use Rattle.backend_names.proofs.weight.Weight.new.Goals as goal

pub returns-then-turns-le16 : goal.returns-then-turns-le16
returns-then-turns-le16 c = grind (arith, common_steps)

pub returns-else-turns-ge1 : goal.returns-else-turns-ge1
returns-else-turns-ge1 c = grind (arith, common_steps)
