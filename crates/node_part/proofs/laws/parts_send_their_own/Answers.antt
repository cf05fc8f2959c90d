use Rattle.node_part.proofs.Ends.{parts_send}
use Rattle.node_part.proofs.laws.parts_send_their_own.Goals as goal

pub returns : goal.returns
returns c = λ only cluster choice packets ss nodes own t. parts_send only cluster choice packets ss nodes own t
