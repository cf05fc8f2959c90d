use Rattle.std.proofs.Common.{rules}
use Rattle.cluster_core.proofs.explaining.slot_at.Goals as goal

pub returns : goal.returns
returns g c = search rules
