use Rattle.scenario_places.proofs.PoolLaws.{one_place}
use Rattle.scenario_places.proofs.pools.one_place_or_a_catalogue.Goals as goal

pub returns : goal.returns
returns c = one_place
