-- What reading a frame refuses has a cause of reading.
use Rattle.std.proofs.Common.{◌≡◌, ℕ, Bool, true, false, List, Result, Ok, Err, Some, refl}
use Rattle.std.specs.Prelude.{nat_lt, if◌then◌else◌}
use Rattle.ip_headers.specs.Ipv4.{Datagram, frame_answer, ipv4_answer}
use Rattle.ip_headers.specs.declared.Link.{Link}
use Rattle.ip_headers.specs.declared.IpFault.{IpFault}
use Rattle.ip_headers.specs.declared.IpFault.TheVariants as faults
use Rattle.five_tuple.specs.declared.Flow.{Flow}
use Rattle.five_tuple.specs.Flow.{flow_answer}
use Rattle.cluster_node.specs.declared.packets.Packet.TheVariants.{Good, Bad}
use Rattle.cluster_node.specs.declared.outcomes.Cause.TheVariants.{TooLarge}
use Rattle.cluster_node.specs.Records.{WasRead, of_reading}
use Rattle.cluster_core.specs.Reading.{cause_of, sized, of_flow, of_datagram, of_frame, packet_read}

fault_read : (fault : IpFault) → of_reading (cause_of fault) ≡ true
fault_read faults.NotIpv4 = refl
fault_read faults.Truncated = refl
fault_read faults.BadHeader = refl
fault_read faults.BadChecksum = refl
fault_read faults.Fragment = refl
fault_read faults.NotTcpUdp = refl
fault_read faults.BadTransport = refl

sized_read : (x : Flow) (total at : ℕ) → WasRead (Some (sized x total at))
sized_read x total at = go (nat_lt 65511 total)
  where
    go : (b : Bool) → WasRead (Some (if b then Bad TooLarge else Good x total at))
    go true = refl
    go false = tt

flow_read : (total at : ℕ) (r : Result Flow IpFault) → WasRead (Some (of_flow total at r))
flow_read total at (Err fault) = fault_read fault
flow_read total at (Ok x) = sized_read x total at

pub datagram_read : (at : ℕ) (r : Result Datagram IpFault) → WasRead (Some (of_datagram at r))
datagram_read at (Err fault) = fault_read fault
datagram_read at (Ok d) = flow_read d.total at (flow_answer d)

frame_read : (check : Bool) (at : ℕ) (r : Result (List ℕ) IpFault) → WasRead (Some (of_frame check at r))
frame_read check at (Err fault) = fault_read fault
frame_read check at (Ok bytes) = datagram_read at (ipv4_answer check bytes)

pub was_read : (link : Link) (frame : List ℕ) (at : ℕ) (check : Bool) → WasRead (Some (packet_read link frame at check))
unfolding packet_read
was_read link frame at check = frame_read check at (frame_answer link frame)
