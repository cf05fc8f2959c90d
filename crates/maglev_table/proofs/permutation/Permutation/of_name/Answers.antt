use Rattle.std.proofs.Common.{arith}
use Rattle.std.proofs.lemmas.Grind.{common_steps}
use Rattle.maglev_table.proofs.permutation.Permutation.of_name.Goals as goal

pub returns : goal.returns
returns g c = grind (arith, common_steps)
