use Rattle.driver_commands.proofs.Unmarked.{known_steps_are_told}
use Rattle.driver_commands.proofs.laws.known_steps_are_told.Goals as goal

pub returns : goal.returns
returns c = λ cluster choice packets ss nodes n e. known_steps_are_told cluster choice packets ss nodes n e
