use Rattle.scenario_sketch.proofs.Fairness.{fair}
use Rattle.scenario_sketch.proofs.laws.ranked_are_fair.Goals as goal

pub returns : goal.returns
returns c = fair
