use Rattle.node_part.proofs.Wholes.{parts_are}
use Rattle.node_part.proofs.laws.parts_are_of_the_whole.Goals as goal

pub returns : goal.returns
returns c = λ only cluster choice packets ss nodes own. parts_are only cluster choice packets ss nodes own
