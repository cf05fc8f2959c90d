-- The command `scenario`: what it writes of a capture, and when it gives up.
use Rattle.std.specs.Prelude.{◌≡◌, ◌⊎◌, ℕ, List, length, filter, not, Option, Ok, Err}
use Rattle.pcap_file.specs.declared.format.Head.{Head}
use Rattle.pcap_file.specs.declared.format.PcapFault.{PcapFault}
use Rattle.pcap_file.specs.declared.format.PcapFault.TheVariants as capture
use Rattle.pcap_file.specs.Capture.{HeadRead, HeadCause}
use Rattle.pcap_file.specs.Device.{Tape, Unfailed}
use Rattle.pcap_file.specs.Text.{AllRefused}
use Rattle.command_faults.specs.declared.fault.CliFault.{CliFault}
use Rattle.command_faults.specs.declared.fault.CliFault.TheVariants.{Capture, Memory, Write}
use Rattle.scenario_sketch.specs.declared.counted.Counted.{Counted}
use Rattle.scenario_sketch.specs.declared.hop.Hop.{Hop}
use Rattle.scenario_sketch.specs.declared.sketch_text.SketchCounts.{SketchCounts}
use Rattle.scenario_sketch.specs.Hops.{destinations_in, is_other_direction}
use Rattle.scenario_sketch.specs.Counts.{destinations_among, busy, IsRanked}
use Rattle.scenario_sketch.specs.Reading.{IsCounted}
use Rattle.scenario_sketch.specs.Text.{sketch_text}

-- the input is a capture, of so many records whose packets come and go so
pub record IsCapture (input : Option (List ℕ)) (records : ℕ) (hops : List Hop) : Type 0 where
  pub head : Head
  pub behind : Option (List ℕ)
  pub header : HeadRead input behind (Ok head)
  pub counted : IsCounted head behind records hops

-- what the head of a sketch tells
abbrev pub counts_of : ℕ → List Hop → List Counted → SketchCounts
counts_of records hops ranked = record { records = records; destinations = length (destinations_among (destinations_in hops)); busy = length ranked }

-- the destinations that aren't the other direction of another one
abbrev pub services_of : List Hop → List Counted → List Counted
services_of hops ranked = filter (λ c. not (is_other_direction hops c)) ranked

-- the text sketches the capture that the input is
pub record IsSketchOf (input : Option (List ℕ)) (text : List ℕ) : Type 0 where
  pub records : ℕ
  pub hops : List Hop
  pub read : IsCapture input records hops
  pub ranked : List Counted
  pub order : IsRanked (busy (destinations_in hops)) ranked
  pub is : text ≡ sketch_text (counts_of records hops ranked) (services_of hops ranked)

-- the header is refused
pub record StartFails (fault : PcapFault) (input left : Tape) : Type 0 where
  pub read : HeadRead input.bytes left.bytes (Err fault)
  pub cause : HeadCause (Err fault) input left

-- the header is that of a capture, and a record is refused
pub record RecordFails (fault : PcapFault) (input left : Tape) : Type 0 where
  pub head : Head
  pub at : Tape
  pub header : HeadRead input.bytes at.bytes (Ok head)
  pub unfailed : Unfailed input at
  pub refused : AllRefused head at left fault

-- when `scenario` gives up, and by which fault
abbrev pub SketchFails : CliFault → Tape → Tape → Type 0
SketchFails (Capture capture.Memory) input left = ⊥
SketchFails (Capture fault) input left = StartFails fault input left ⊎ RecordFails fault input left
SketchFails Memory input left = Unit {0}
SketchFails Write input left = Unfailed input left
SketchFails _ input left = ⊥
