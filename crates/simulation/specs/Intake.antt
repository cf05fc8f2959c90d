-- The records of a capture that are read one by one.
use Rattle.std.specs.Prelude.{◌≡◌, ℕ, Bool, true, false, List, [], ◌∷◌, ◌++◌, ◌+◌, ◌<◌, ◌≤◌, length, map, Ok, Err, Option, Some, None, is_some}
use Rattle.pcap_file.specs.declared.format.Head.{Head}
use Rattle.pcap_file.specs.declared.format.InputEnd.{InputEnd}
use Rattle.pcap_file.specs.Device.{Tape, Unfailed, CallsAtMost}
use Rattle.pcap_file.specs.declared.format.Ending.TheVariants.{Failed}
use Rattle.pcap_file.specs.declared.format.PcapFault.{PcapFault}
use Rattle.pcap_file.specs.Format.{Record, max_records}
use Rattle.pcap_file.specs.Reading.{Gave, CauseOfEnding}
use Rattle.pcap_file.specs.Text.{Passed, IsTold, calls_for, ending_of, RefusedBehind}
use Rattle.timed_steps.specs.Timed.{first_of, is_before}
use Rattle.simulation.specs.Sent.{time_of}
use Rattle.simulation.specs.declared.fault.SimulationFault.{SimulationFault}
use Rattle.simulation.specs.declared.fault.SimulationFault.TheVariants.{Capture, Write, Memory}

-- The header, the record handed out last, how many were handed out, and how the input ended, if it did. Beside these: the
-- record that is ahead, which was read and not handed out yet, and the time of the first that was read, or 0.
pub record Taking : Type 0 where
  pub head : Head
  pub record_read : Record
  pub given : ℕ
  pub ended : Option InputEnd
  pub ahead : Option Record
  pub first : ℕ

-- the record that was lent, or else this one
abbrev pub lent_or : {F : Type 0} → (F → Record) → Option F → Record → Record
lent_or of None r = r
lent_or of (Some f) r = of f

-- the record that waits to be handed out, if one does
abbrev pub ahead_if : Bool → Record → Option Record
ahead_if true r = Some r
ahead_if false r = None

abbrev pub listed : Option Record → List Record
listed None = []
listed (Some r) = r ∷ []

-- the time of the first record in microseconds, or 0 of none
abbrev pub first_time : List Record → ℕ
first_time rs = first_of (map time_of rs)

-- whether there is a record that came less than so long after the first
abbrev pub comes_early : ℕ → ℕ → Option Record → Bool
comes_early first end None = false
comes_early first end (Some r) = is_before first end (time_of r)

-- these records begin with the one that is ahead
abbrev pub BeginsWith : Option Record → List Record → Type 0
BeginsWith None more = Unit {0}
BeginsWith (Some r) more = (rest : List Record) × (more ≡ r ∷ rest)

-- these records can be the next ones: the one that is ahead comes first, and none comes where the input has ended
pub record CanCome (t : Taking) (more : List Record) : Type 0 where
  pub ended : is_some t.ended ≡ true → more ≡ []
  pub ahead : BeginsWith t.ahead more

-- the next record is this one, as far as it is known
abbrev pub IsNext : Option Record → Record → Type 0
IsNext None x = Unit {0}
IsNext (Some r) x = x ≡ r

-- few enough were read, and none waits where the input has ended
pub record Within (given : ℕ) (waits : Bool) (ended : Option InputEnd) : Type 0 where
  pub few : given ≤ max_records
  pub room : waits ≡ true → given < max_records
  pub quiet : is_some ended ≡ true → waits ≡ false

-- after the header the input has these records; and then what is left, or the ending
abbrev pub HasSeen : Head → Option InputEnd → Option (List ℕ) → List Record → Option (List ℕ) → Type 0
HasSeen head None text seen left = Passed head text seen left
HasSeen head (Some ending) text seen left = IsTold head text seen ending

-- these records were handed out, and with the one that is ahead they were read
pub record Seen (text : Tape) (seen : List Record) (left : Tape) (t : Taking) : Type 0 where
  pub has : HasSeen t.head t.ended text.bytes (seen ++ listed t.ahead) left.bytes
  pub count : t.given ≡ length seen
  pub quiet : is_some t.ended ≡ true → t.ahead ≡ None
  pub first : t.first ≡ first_time (seen ++ listed t.ahead)
  pub unfailed : Unfailed text left
  pub calls : t.ended ≡ None → CallsAtMost (calls_for (seen ++ listed t.ahead)) text left

-- as many were read and handed out as before, and the input has ended as before
abbrev pub StandsStill : Taking → Taking → Type 0
StandsStill old new = (new.given ≡ old.given) × (new.ended ≡ old.ended) × (new.head ≡ old.head) × (new.ahead ≡ old.ahead) × (new.first ≡ old.first)

-- a further record was handed out, or the input has ended
abbrev pub SeenMore : Bool → Tape → List Record → Tape → Taking → Type 0
SeenMore true text seen left t = Seen text (seen ++ t.record_read ∷ []) left t × (t.ended ≡ None) × (t.ahead ≡ None)
SeenMore false text seen left t = Seen text seen left t × (is_some t.ended ≡ true)

-- one record was read, or how the input ends
abbrev pub ReadOrEnded : Head → ℕ → Tape → Tape → Record → Option InputEnd → Type 0
ReadOrEnded head given before after r None = Gave head given before.bytes after.bytes (Ok r) × Unfailed before after
    × CallsAtMost (length r.bytes + 2016) before after × (given < max_records)
ReadOrEnded head given before after r (Some ending) = Gave head given before.bytes after.bytes (Err (ending_of ending)) × Unfailed before after

-- the next record was refused
abbrev pub NextRefused : Head → ℕ → Tape → Tape → PcapFault → Type 0
NextRefused head given before after fault = Gave head given before.bytes after.bytes (Err (Failed fault)) × CauseOfEnding head (Failed fault) before after

-- the next record was looked for: it is ahead now, or the input has ended
pub record Looked (old new : Taking) : Type 0 where
  pub ended : new.ahead ≡ None → is_some new.ended ≡ true
  pub comes : (more : List Record) → CanCome new more → CanCome old more

-- after the records that were handed out come these, and then the ending
pub record ReadOn (text : Tape) (seen : List Record) (left : Tape) (ending : InputEnd) (old new : Taking) : Type 0 where
  pub more : List Record
  pub told : IsTold old.head text.bytes (seen ++ more) ending
  pub unfailed : Unfailed text left
  pub count : new.given ≡ length (seen ++ more)
  pub comes : CanCome old more

-- the input is after these records, or at its end if these are all
abbrev pub Stands : Head → Tape → Tape → List Record → Type 0
Stands head text left records = (ended : Option InputEnd) × HasSeen head ended text.bytes records left.bytes × Unfailed text left

-- where the input is when a run stopped by this fault: it refused the record after these, or it is after them
abbrev pub StopsAt : Head → Tape → Tape → List Record → SimulationFault → Type 0
StopsAt head text left records (Capture fault) = RefusedBehind head text left records fault
StopsAt head text left records Write = Stands head text left records
StopsAt head text left records Memory = Stands head text left records

-- reading on stopped by this fault, after some records more
pub record ReadStops (old : Taking) (text : Tape) (seen : List Record) (left : Tape) (fault : SimulationFault) : Type 0 where
  pub more : List Record
  pub stops : StopsAt old.head text left (seen ++ more) fault
  pub comes : CanCome old more
