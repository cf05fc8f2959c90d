-- The ordinals of a capture's records, and when they aren't read.
use Rattle.std.specs.Prelude.{◌≡◌, ◌⊎◌, ℕ, List, map, reverse, slice_index, Option, Ok, Err}
use Rattle.ip_headers.specs.declared.Link.{Link}
use Rattle.pcap_file.specs.declared.format.Head.{Head}
use Rattle.pcap_file.specs.declared.format.InputEnd.{InputEnd}
use Rattle.pcap_file.specs.declared.format.PcapFault.{PcapFault}
use Rattle.pcap_file.specs.Capture.{HeadRead, HeadCause}
use Rattle.pcap_file.specs.Device.{Tape, Unfailed}
use Rattle.pcap_file.specs.Format.{Record}
use Rattle.pcap_file.specs.Text.{IsTold, AllRefused}
use Rattle.connection_starts.specs.declared.ordinals.Ordinals.{Ordinals}
use Rattle.connection_starts.specs.declared.starts.StartRules.{StartRules}
use Rattle.connection_starts.specs.declared.segment.Segment.{Segment}
use Rattle.connection_starts.specs.Segments.{segment_in}
use Rattle.connection_starts.specs.Ordinals.{ordinal_at}

-- the segments of a capture's records, the newest in front
abbrev pub told_by : StartRules → Link → List Record → List (Option Segment)
told_by rules link rs = reverse (map (segment_in rules.check link) rs)

-- the ordinal of the connection of a capture's record of this number, counted from 0
abbrev pub ordinal_in : StartRules → Link → List Record → ℕ → ℕ
ordinal_in rules link rs k = ordinal_at rules.idle (told_by rules link rs) k

-- what is answered of a record
abbrev pub answered : Ordinals → ℕ → ℕ
answered o k = slice_index o.all.items k

-- after a header the input has some records, and what is answered of each is the ordinal of its connection
pub record AreTold (rules : StartRules) (head : Head) (behind : Option (List ℕ)) (o : Ordinals) : Type 0 where
  pub records : List Record
  pub ending : InputEnd
  pub told : IsTold head behind records ending
  pub each : (k : ℕ) → answered o k ≡ ordinal_in rules head.link records k

-- the same of a capture
pub record AreOrdinalsOf (rules : StartRules) (input : Option (List ℕ)) (o : Ordinals) : Type 0 where
  pub head : Head
  pub behind : Option (List ℕ)
  pub header : HeadRead input behind (Ok head)
  pub all : AreTold rules head behind o

-- the header is refused
pub record StartFails (fault : PcapFault) (input left : Tape) : Type 0 where
  pub read : HeadRead input.bytes left.bytes (Err fault)
  pub cause : HeadCause (Err fault) input left

-- the header is that of a capture, and a record is refused, or memory is
pub record RecordFails (fault : PcapFault) (input left : Tape) : Type 0 where
  pub head : Head
  pub at : Tape
  pub header : HeadRead input.bytes at.bytes (Ok head)
  pub unfailed : Unfailed input at
  pub refused : AllRefused head at left fault

abbrev pub ReadFails : PcapFault → Tape → Tape → Type 0
ReadFails fault input left = StartFails fault input left ⊎ RecordFails fault input left
