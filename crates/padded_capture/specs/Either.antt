-- A source that is padded, or comes as it is.
use Rattle.pcap_file.specs.Device.{Tape}
use Rattle.padded_capture.specs.declared.padded.Padded.{Padded}
use Rattle.padded_capture.specs.declared.either.CaptureSource.{CaptureSource}
use Rattle.padded_capture.specs.declared.either.CaptureSource.TheVariants as source

-- its bytes and counts: those of what it has
abbrev pub tape_of : {I : Type 0} → (I → Tape) → (Padded I → Tape) → CaptureSource I → Tape
tape_of plain padded (source.Plain i) = plain i
tape_of plain padded (source.Padded p) = padded p
