-- What a device was told of a text.
use Rattle.std.specs.Prelude.{◌≡◌, ℕ, List, ◌++◌}
use Rattle.std.specs.Io.KnownBytes.{Appends}
use Rattle.pcap_file.specs.Device.{Tape, Unfailed}

-- Since the device was the first, it got the front of the whole, and this text is the rest.
pub record HasTold {R : Type 0} (tape : R → Tape) (first sink : R) (text whole : List ℕ) : Type 0 where
  pub front : List ℕ
  pub got : Appends (tape first).bytes (tape sink).bytes front
  pub unfailed : Unfailed (tape first) (tape sink)
  pub rest : whole ≡ front ++ text
