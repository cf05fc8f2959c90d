use Rattle.scenario_pools.proofs.Alike.{versions_mean_the_same}
use Rattle.scenario_pools.proofs.Older.{older_formats_state_versions}
use Rattle.scenario_pools.proofs.laws.older_formats_state_versions.Goals as goal

pub returns-clause-stated : goal.returns-clause-stated
returns-clause-stated c = λ f ms old no_servers. older_formats_state_versions f ms old no_servers

pub returns-clause-later : goal.returns-clause-later
returns-clause-later c = λ f g old more ms ds ws h k. versions_mean_the_same f g old more ms ds ws h k
