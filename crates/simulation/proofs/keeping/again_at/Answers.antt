use Rattle.simulation.proofs.Named.{names_none}
use Rattle.simulation.proofs.keeping.again_at.Goals as goal

pub returns-in_default : goal.returns-in_default
returns-in_default c = λ place. names_none place c.args.step.now c.in_default.not-Again
