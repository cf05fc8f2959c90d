use Rattle.scenario.proofs.OneByOne.{texts_are_steps}
use Rattle.scenario.proofs.laws.texts_are_steps.Goals as goal

pub returns : goal.returns
returns c = λ rules texts other few. texts_are_steps rules texts other few
