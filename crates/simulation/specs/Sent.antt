-- What is sent of the packets of a capture.
use Rattle.std.specs.Prelude.{◌≡◌, ℕ, ◌+◌, ◌*◌, Bool, List, [], ◌∷◌, ◌++◌, take, map, Option, Some, None, Result, Ok, Err, slice_get}
use Rattle.std.specs.Io.KnownBytes.{Appends}
use Rattle.ip_headers.specs.declared.Link.{Link}
use Rattle.ip_headers.specs.declared.IpFault.{IpFault}
use Rattle.ip_headers.specs.Ipv4.{frame_answer}
use Rattle.pool_versions.specs.declared.backend.Backend.{Backend}
use Rattle.gre_tunnel.specs.Gre.{wrapped}
use Rattle.pcap_file.specs.Device.{Tape, Unfailed, PutRefused}
use Rattle.pcap_file.specs.Format.{Record, written_head, written_record}
use Rattle.cluster_node.specs.declared.packets.Packet.{Packet}
use Rattle.cluster_node.specs.declared.packets.Packet.TheVariants.{Good, Bad}
use Rattle.cluster_node.specs.declared.outcomes.Outcome.{Outcome}
use Rattle.cluster_node.specs.declared.outcomes.Outcome.TheVariants.{Installed, Placed, Forward, Dropped, Restarted, Refused}
use Rattle.cluster_node.specs.declared.events.LogEntry.{LogEntry}
use Rattle.cluster_core.specs.Reading.{packet_read}
use Rattle.simulation.specs.declared.fault.SimulationFault.{SimulationFault}
use Rattle.simulation.specs.declared.fault.SimulationFault.TheVariants.{Capture, Write, Memory}

-- a record's time in microseconds
abbrev pub time_of : Record → ℕ
time_of r = r.secs * 1000000 + r.micros

-- the packets that the records of a capture are, each with its record's time
abbrev pub packet_in : Link → Bool → Record → Packet
packet_in link check r = packet_read link r.bytes (time_of r) check

abbrev pub packets_of : Link → Bool → List Record → List Packet
packets_of link check rs = map (packet_in link check) rs

-- the datagram of a packet, by its length: what is after it in the frame is padding
abbrev pub cut_to : Packet → Result (List ℕ) IpFault → Option (List ℕ)
cut_to p (Err fault) = None
cut_to (Bad c) (Ok bytes) = None
cut_to (Good x len at) (Ok bytes) = Some (take len bytes)

unfoldable pub datagram_in : Link → Bool → Record → Option (List ℕ)
datagram_in link check r = cut_to (packet_in link check r) (frame_answer link r.bytes)

-- a record that is written
pub record Sending : Type 0 where
  pub secs : ℕ
  pub micros : ℕ
  pub bytes : List ℕ

-- the nodes' addresses, how frames are read, and the records
pub record Traffic : Type 0 where
  pub nodes : List ℕ
  pub link : Link
  pub check : Bool
  pub records : List Record

-- a datagram that is wrapped from one address to another, with a record's time
abbrev pub wrapped_at : Record → ℕ → ℕ → List ℕ → Sending
wrapped_at r node backend inner = record { secs = r.secs; micros = r.micros; bytes = wrapped node backend inner }

-- a record's datagram is wrapped from the node's address to the backend's, and bears the record's time
abbrev pub wrapped_as : Record → Option ℕ → ℕ → Option (List ℕ) → List Sending
wrapped_as r None backend d = []
wrapped_as r (Some node) backend None = []
wrapped_as r (Some node) backend (Some inner) = wrapped_at r node backend inner ∷ []

abbrev pub sent_at : Traffic → ℕ → Backend → Option Record → List Sending
sent_at t n b None = []
sent_at t n b (Some r) = wrapped_as r (slice_get t.nodes n) b.addr (datagram_in t.link t.check r)

-- what an outcome sends
unfoldable pub sent_by : Traffic → Outcome → List Sending
sent_by t Installed = []
sent_by t (Placed w f) = []
sent_by t (Forward n w k x b v) = sent_at t n b (slice_get t.records k)
sent_by t (Dropped k c) = []
sent_by t (Restarted l) = []
sent_by t (Refused r) = []

-- what a list of events sends, in order
abbrev pub sent : Traffic → List LogEntry → List Sending
sent t [] = []
sent t (s ∷ ss) = sent_by t s.outcome ++ sent t ss

unfoldable pub record_text : Sending → List ℕ
record_text r = written_record r.secs r.micros r.bytes

abbrev pub records_text : List Sending → List ℕ
records_text [] = []
records_text (r ∷ rs) = record_text r ++ records_text rs

abbrev pub capture_text : List Sending → List ℕ
capture_text rs = written_head ++ records_text rs

-- a device got these records, and no failure was counted
pub record Wrote (before after : Tape) (rs : List Sending) : Type 0 where
  pub bytes : Appends before.bytes after.bytes (records_text rs)
  pub unfailed : Unfailed before after

-- a device got the first of these records, whole, and nothing of the others
pub record WroteFirst (before after : Tape) (all : List Sending) : Type 0 where
  pub first : List Sending
  pub others : List Sending
  pub all_is : all ≡ first ++ others
  pub wrote : Wrote before after first

-- a device got the first of these records, whole, and was given up at the next
pub record WriteFails (before after : Tape) (all : List Sending) : Type 0 where
  pub first : List Sending
  pub next : Sending
  pub others : List Sending
  pub all_is : all ≡ first ++ next ∷ others
  pub at : Tape
  pub wrote : Wrote before at first
  pub refused : PutRefused (record_text next) at after

-- what a device got of these records where a run stopped by this fault
abbrev pub WroteUntil : SimulationFault → Tape → Tape → List Sending → Type 0
WroteUntil (Capture fault) before after all = WroteFirst before after all
WroteUntil Write before after all = WriteFails before after all
WroteUntil Memory before after all = WroteFirst before after all
