use Rattle.scenario.proofs.Alike.{formats_mean_the_same}
use Rattle.scenario.proofs.laws.formats_mean_the_same.Goals as goal

pub returns : goal.returns
returns c = λ f g played ms ns plan later a h. formats_mean_the_same f g played ms ns plan later a h
