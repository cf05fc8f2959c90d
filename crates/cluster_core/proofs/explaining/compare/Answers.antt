use Rattle.std.proofs.Common.{rules}
use Rattle.cluster_core.proofs.explaining.compare.Goals as goal

pub returns-then-ne : goal.returns-then-ne
returns-then-ne g c = search rules

pub returns-then-eq : goal.returns-then-eq
returns-then-eq g c = search rules

pub returns-else-eq : goal.returns-else-eq
returns-else-eq g c = search rules

pub returns-in_default : goal.returns-in_default
returns-in_default g c = search rules
