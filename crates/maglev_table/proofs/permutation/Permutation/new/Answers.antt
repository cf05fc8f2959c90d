use Rattle.std.proofs.Common.{arith}
use Rattle.std.proofs.lemmas.Grind.{common_steps}
use Rattle.maglev_table.proofs.permutation.Permutation.new.Goals as goal

pub returns-then-skip-slots : goal.returns-then-skip-slots
returns-then-skip-slots c = grind (arith, common_steps)

pub returns-else-offset-slots : goal.returns-else-offset-slots
returns-else-offset-slots c = grind (arith, common_steps)
