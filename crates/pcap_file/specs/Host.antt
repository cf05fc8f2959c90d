-- What a reader or a writer reports as a device.
use Rattle.std.specs.Prelude.{ℕ, List, Option}
use Rattle.pcap_file.specs.declared.counts.CallCounts.{CallCounts}
use Rattle.pcap_file.specs.Device.{Tape}

-- a device with these bytes and these counts
abbrev pub taped : Option (List ℕ) → CallCounts → Tape
taped bytes counts = record { bytes = bytes; failures = counts.failures; interruptions = counts.interruptions; calls = counts.calls }

-- a device with these bytes that wasn't called
abbrev pub uncalled : Option (List ℕ) → Tape
uncalled bytes = record { bytes = bytes; failures = 0; interruptions = 0; calls = 0 }
