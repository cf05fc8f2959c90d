-- Where a capture's datagrams come from, and where they go to.
use Rattle.std.specs.Prelude.{◌≡◌, ℕ, true, List, [], ◌∷◌, length, Option}
use Rattle.std.specs.List.{flat_map}
use Rattle.ip_headers.specs.declared.Link.{Link}
use Rattle.pcap_file.specs.declared.format.Head.{Head}
use Rattle.pcap_file.specs.declared.format.InputEnd.{InputEnd}
use Rattle.pcap_file.specs.Format.{Record}
use Rattle.pcap_file.specs.Text.{IsTold}
use Rattle.cluster_node.specs.declared.packets.Packet.{Packet}
use Rattle.cluster_node.specs.declared.packets.Packet.TheVariants.{Good, Bad}
use Rattle.cluster_core.specs.Reading.{packet_read}
use Rattle.scenario_sketch.specs.declared.hop.Hop.{Hop}
use Rattle.scenario_sketch.specs.Hops.{hop_of_flow}

-- that of a packet, and none of what can't be balanced
abbrev pub hop_of : Packet → List Hop
hop_of (Good x len at) = hop_of_flow x ∷ []
hop_of (Bad cause) = []

-- that of a record, with the test of the header's checksum; when it came doesn't matter
abbrev pub hop_in : Link → Record → List Hop
hop_in link r = hop_of (packet_read link r.bytes 0 true)

-- those of the packets of some records, in their order
abbrev pub hops_of : Link → List Record → List Hop
hops_of link rs = flat_map (hop_in link) rs

-- after the header the input is so many records, whose packets come and go so
pub record IsCounted (head : Head) (text : Option (List ℕ)) (n : ℕ) (hops : List Hop) : Type 0 where
  pub records : List Record
  pub ending : InputEnd
  pub told : IsTold head text records ending
  pub count : n ≡ length records
  pub all : hops ≡ hops_of head.link records
