use Rattle.std.proofs.Common.{Some, sym, subst}
use Rattle.ip_headers.specs.Ipv4.{ipv4_answer}
use Rattle.cluster_node.specs.declared.packets.Packet.{Packet}
use Rattle.cluster_node.specs.Records.{WasRead}
use Rattle.cluster_core.proofs.Frames.{datagram_read}
use Rattle.cluster_core.proofs.reading.read_packet.Goals as goal

pub returns-in-Ok-clause-cause : goal.returns-in-Ok-clause-cause
returns-in-Ok-clause-cause c = subst (λ (p : Packet). WasRead (Some p)) (sym c.of_datagram.ensures) (datagram_read c.args.at (ipv4_answer c.args.check c.in-Ok.bytes.now))
