-- A frame as a packet: its flow, length and time, or why it can't be balanced.
use Rattle.std.specs.Prelude.{ℕ, Bool, List, Result, Ok, Err, nat_lt, if◌then◌else◌}
use Rattle.ip_headers.specs.Ipv4.{Datagram, frame_answer, ipv4_answer}
use Rattle.ip_headers.specs.declared.Link.{Link}
use Rattle.ip_headers.specs.declared.IpFault.{IpFault}
use Rattle.ip_headers.specs.declared.IpFault.TheVariants as faults
use Rattle.five_tuple.specs.declared.Flow.{Flow}
use Rattle.five_tuple.specs.Flow.{flow_answer}
use Rattle.cluster_node.specs.declared.packets.Packet.{Packet}
use Rattle.cluster_node.specs.declared.packets.Packet.TheVariants.{Good, Bad}
use Rattle.cluster_node.specs.declared.outcomes.Cause.{Cause}
use Rattle.cluster_node.specs.declared.outcomes.Cause.TheVariants.{NotIpv4, Truncated, BadHeader, BadChecksum, Fragment, NotTcpUdp, BadTransport, TooLarge}

abbrev pub cause_of : IpFault → Cause
cause_of faults.NotIpv4 = NotIpv4
cause_of faults.Truncated = Truncated
cause_of faults.BadHeader = BadHeader
cause_of faults.BadChecksum = BadChecksum
cause_of faults.Fragment = Fragment
cause_of faults.NotTcpUdp = NotTcpUdp
cause_of faults.BadTransport = BadTransport

-- a datagram of more than 65511 bytes can't be wrapped
abbrev pub sized : Flow → ℕ → ℕ → Packet
sized x total at = if nat_lt 65511 total then Bad TooLarge else Good x total at

abbrev pub of_flow : ℕ → ℕ → Result Flow IpFault → Packet
of_flow total at (Err fault) = Bad (cause_of fault)
of_flow total at (Ok x) = sized x total at

abbrev pub of_datagram : ℕ → Result Datagram IpFault → Packet
of_datagram at (Err fault) = Bad (cause_of fault)
of_datagram at (Ok d) = of_flow d.total at (flow_answer d)

abbrev pub of_frame : Bool → ℕ → Result (List ℕ) IpFault → Packet
of_frame check at (Err fault) = Bad (cause_of fault)
of_frame check at (Ok bytes) = of_datagram at (ipv4_answer check bytes)

-- a frame of a link that came at a time, with the test of the header's checksum or without
unfoldable pub packet_read : Link → List ℕ → ℕ → Bool → Packet
packet_read link frame at check = of_frame check at (frame_answer link frame)
