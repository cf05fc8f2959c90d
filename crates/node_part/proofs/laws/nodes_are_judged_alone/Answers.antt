use Rattle.node_part.proofs.Wholes.{verdicts_own}
use Rattle.node_part.proofs.laws.nodes_are_judged_alone.Goals as goal

pub returns : goal.returns
returns c = λ rules past other e p same. verdicts_own rules past other e p same
