use Rattle.traffic_shares.proofs.Sums.{packets_add}
use Rattle.traffic_shares.proofs.laws.packets_add_up.Goals as goal

pub returns : goal.returns
returns c = packets_add
