use Rattle.connection_changes.proofs.Alone.{moves_are}
use Rattle.connection_changes.proofs.laws.moves_of_one_worker_are_evictions.Goals as goal

pub returns : goal.returns
returns c = moves_are
