-- What a record of a capture tells of its connection: the flow of a TCP segment, its flags, and when it came.
use Rattle.std.specs.Prelude.{ℕ, ◌+◌, ◌*◌, ◌/◌, ◌%◌, Bool, not, ◌&&◌, ◌||◌, ◌==◌, List, slice_index, Option, Some, None, Result, Ok, Err, if◌then◌else◌}
use Rattle.ip_headers.specs.Ipv4.{Datagram, frame_answer, ipv4_answer}
use Rattle.ip_headers.specs.declared.IpFault.{IpFault}
use Rattle.ip_headers.specs.declared.Link.{Link}
use Rattle.five_tuple.specs.declared.Flow.{Flow}
use Rattle.five_tuple.specs.Flow.{flow_answer}
use Rattle.pcap_file.specs.Format.{Record}
use Rattle.connection_starts.specs.declared.segment.Segment.{Segment}

-- SYN is there, and ACK isn't
abbrev pub opens : ℕ → Bool
opens flags = (flags / 2 % 2 == 1) && not (flags / 16 % 2 == 1)

-- FIN or RST is there
abbrev pub closes : ℕ → Bool
closes flags = (flags % 2 == 1) || (flags / 4 % 2 == 1)

-- in microseconds
abbrev pub time_of : Record → ℕ
time_of r = r.secs * 1000000 + r.micros

-- the flags of a TCP header are its byte 13
abbrev pub segment_of : ℕ → Datagram → Result Flow IpFault → Option Segment
segment_of at d (Err fault) = None
segment_of at d (Ok x) = if x.proto == 6 then Some (record { flow = x; flags = slice_index d.payload 13; at = at }) else None

abbrev pub segment_read : ℕ → Result Datagram IpFault → Option Segment
segment_read at (Err fault) = None
segment_read at (Ok d) = segment_of at d (flow_answer d)

abbrev pub segment_framed : Bool → ℕ → Result (List ℕ) IpFault → Option Segment
segment_framed check at (Err fault) = None
segment_framed check at (Ok bytes) = segment_read at (ipv4_answer check bytes)

-- the segment of a record, where its frame carries one, with the test of the IPv4 header's checksum or without
unfoldable pub segment_in : Bool → Link → Record → Option Segment
segment_in check link r = segment_framed check (time_of r) (frame_answer link r.bytes)
