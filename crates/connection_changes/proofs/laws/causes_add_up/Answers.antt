use Rattle.connection_changes.proofs.Counts.{causes_add}
use Rattle.connection_changes.proofs.laws.causes_add_up.Goals as goal

pub returns : goal.returns
returns c = causes_add
