-- What is sent on a wire, and where it goes.
use Rattle.std.specs.Prelude.{List, None}
use Rattle.pcap_file.specs.Device.{Tape}
use Rattle.pcap_file.specs.Format.{Record}
use Rattle.simulation.specs.declared.lent.LentRecord.{LentRecord}
use Rattle.simulation.specs.declared.sending.Wire.{Wire}
use Rattle.simulation.specs.Sent.{Traffic}

-- a record whose bytes are lent
abbrev pub lent_record : LentRecord → Record
lent_record r = record { secs = r.secs; micros = r.micros; original = r.original; bytes = r.bytes.now }

-- what is sent on a wire of these records
abbrev pub traffic : Wire → List Record → Traffic
traffic w records = record { nodes = w.nodes.now; link = w.link; check = w.check; records = records }

-- where there is no device: it tells no bytes, never fails and isn't called
abbrev pub unkept : Tape
unkept = record { bytes = None; failures = 0; interruptions = 0; calls = 0 }
