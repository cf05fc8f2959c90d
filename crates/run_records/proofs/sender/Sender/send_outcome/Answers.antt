use Rattle.simulation.specs.Wires.{lent_record}
use Rattle.run_records.proofs.sender.Sender.send_outcome.Goals as goal

pub send_record-requires : goal.send_record-requires
send_record-requires g c = c.packet-read.ensures (lent_record c.at-lent.result) c.at-lent.ensures
