use Rattle.driver_commands.proofs.Lives.{ends_are_told}
use Rattle.driver_commands.proofs.laws.ends_are_told.Goals as goal

pub returns : goal.returns
returns c = λ choice packets ss nodes n. ends_are_told choice packets ss nodes n
