use Rattle.cluster_core.proofs.Reversed.{came_told, went_told, sends_told}
use Rattle.cluster_core.proofs.laws.histories_are_told.Goals as goal

pub returns-clause-picked : goal.returns-clause-picked
returns-clause-picked c = λ rules history steady j. sends_told rules history steady j

pub returns-clause-counts : goal.returns-clause-counts
returns-clause-counts c = λ history. (came_told history, went_told history)
