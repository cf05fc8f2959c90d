use Rattle.run_records.proofs.Walks.{packet_among}
use Rattle.run_records.proofs.sender.Sender.packet.Goals as goal

pub returns : goal.returns
returns g = λ r here. packet_among _ _ _ _ _ r _ g.args.self.now.read here
