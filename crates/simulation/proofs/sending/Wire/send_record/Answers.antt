use Rattle.simulation.proofs.Lengths.{inner_short}
use Rattle.simulation.proofs.sending.Wire.send_record.Goals as goal

pub put_wrapped-requires : goal.put_wrapped-requires
put_wrapped-requires g c = inner_short _ _ _ _ _ c.datagram-inner.result c.requires c.datagram-inner.ensures
