-- How far a capture was padded, and what comes from there on.
use Rattle.std.specs.Prelude.{◌≡◌, ◌≤◌, ◌<◌, ℕ, Bool, List, [], ◌++◌, length, option_map, Option, Some, None, ◌-◌, false, if◌then◌else◌, true}
use Rattle.std.specs.Io.KnownBytes.{IsAtEnd}
use Rattle.pcap_file.specs.declared.format.Order.{Order}
use Rattle.pcap_file.specs.declared.format.Fraction.{Fraction}
use Rattle.padded_capture.specs.declared.stage.Form.{Form}
use Rattle.padded_capture.specs.declared.stage.Form.TheVariants.{Unknown, Ordered, Plain}
use Rattle.padded_capture.specs.declared.stage.Turn.{Turn}
use Rattle.padded_capture.specs.declared.stage.Turn.TheVariants.{Gather, Give, Pass, Zero}
use Rattle.padded_capture.specs.Padding.{padded, padded_records, followed}

-- What is known of the form, whether the bytes that wait are the front of a header that isn't whole yet, and these bytes. Behind
-- them so many bytes are as they come, and then there are so many zeros.
pub record State : Type 0 where
  pub form : Form
  pub is_gathering : Bool
  pub waiting : List ℕ
  pub plain : ℕ
  pub zeros : ℕ

-- nothing is known yet
abbrev pub fresh : State
fresh = record { form = Unknown; is_gathering = true; waiting = []; plain = 0; zeros = 0 }

-- nothing is to be padded
abbrev pub untouched : State
untouched = record { form = Plain; is_gathering = false; waiting = []; plain = 0; zeros = 0 }

-- how many bytes the header has that is gathered
abbrev pub header_len : Form → ℕ
header_len Unknown = 24
header_len (Ordered order) = 16
header_len Plain = 0

-- what the four bytes that a capture begins with say of its form
abbrev pub form_of : Option (Order × Fraction) → Form
form_of None = Plain
form_of (Some form) = Ordered form.0

-- a text from a header on
abbrev pub padded_from : Form → List ℕ → List ℕ
padded_from Unknown text = padded text
padded_from (Ordered order) text = padded_records order text
padded_from Plain text = text

-- a text behind a header
abbrev pub followed_from : Form → ℕ → ℕ → List ℕ → List ℕ
followed_from Unknown plain missing text = text
followed_from (Ordered order) plain missing text = followed (padded_records order) plain missing text
followed_from Plain plain missing text = text

-- what comes yet, where this text was not read yet
unfoldable pub coming : State → List ℕ → List ℕ
coming s text = if s.is_gathering then padded_from s.form (s.waiting ++ text) else s.waiting ++ followed_from s.form s.plain s.zeros text

-- the same, where the device reports its bytes
abbrev pub coming_of : State → Option (List ℕ) → Option (List ℕ)
coming_of s known = option_map (coming s) known

-- the padded capture, where the device reports its bytes
abbrev pub padded_of : Option (List ℕ) → Option (List ℕ)
padded_of known = option_map padded known

-- the bytes that come are the same, whatever wasn't read yet
abbrev pub ComesSame : State → State → Type 0
ComesSame before after = (text : List ℕ) → coming before text ≡ coming after text

-- these bytes came, whatever wasn't read yet
abbrev pub Gave : State → State → List ℕ → Type 0
Gave before after bytes = (text : List ℕ) → coming before text ≡ bytes ++ coming after text

-- the bytes were read behind what was read before
abbrev pub Took : State → State → List ℕ → Type 0
Took before after bytes = (text : List ℕ) → coming before (bytes ++ text) ≡ coming after text

-- the bytes were read, and came as they are
abbrev pub Passed : State → State → List ℕ → Type 0
Passed before after bytes = (text : List ℕ) → coming before (bytes ++ text) ≡ bytes ++ coming after text

-- so many bytes may come as they are
abbrev pub FitsIn : Form → ℕ → ℕ → Type 0
FitsIn Unknown n plain = Unit {0}
FitsIn (Ordered order) n plain = n ≤ plain
FitsIn Plain n plain = Unit {0}

-- how many bytes are as they come behind n of them
abbrev pub left_of : Form → ℕ → ℕ → ℕ
left_of Unknown plain n = plain
left_of (Ordered order) plain n = plain - n
left_of Plain plain n = plain

-- what may be done where a stage is so
abbrev pub IsTurn : Turn → State → Type 0
IsTurn Gather s = (s.is_gathering ≡ true) × (length s.waiting < header_len s.form)
IsTurn Give s = (s.is_gathering ≡ false) × (0 < length s.waiting)
IsTurn Pass s = (s.is_gathering ≡ false) × (s.waiting ≡ []) × FitsIn s.form 1 s.plain
IsTurn Zero s = (s.is_gathering ≡ false) × (s.waiting ≡ []) × (0 < s.zeros) × (s.plain ≡ 0) × ((order : Order) × (s.form ≡ Ordered order))

-- a text is over, and what waits is the last of it
abbrev pub IsOver : State → Option (List ℕ) → Type 0
IsOver s known = (s.is_gathering ≡ false) × (s.form ≡ Plain) × IsAtEnd known
