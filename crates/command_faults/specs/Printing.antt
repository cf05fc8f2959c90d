-- A text that is written to a device in one piece.
use Rattle.std.specs.Prelude.{List, ℕ}
use Rattle.std.specs.Io.KnownBytes.{Appends}
use Rattle.pcap_file.specs.Device.{Tape, Unfailed, PutRefused}

-- the device got a text of which this holds, and counted no failure
abbrev pub Prints : (List ℕ → Type 0) → Tape → Tape → Type 0
Prints IsText old new = (text : List ℕ) × IsText text × Appends old.bytes new.bytes text × Unfailed old new

-- the device was given up when it had got a beginning of such a text
abbrev pub BreaksOff : (List ℕ → Type 0) → Tape → Tape → Type 0
BreaksOff IsText old new = (text : List ℕ) × IsText text × PutRefused text old new
