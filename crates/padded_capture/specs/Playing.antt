-- What is read of a padded capture.
use Rattle.std.specs.Prelude.{◌≡◌, ℕ, ◌&&◌, not, nat_lt, Bool, List, ◌++◌, length, drop, map, replicate, Ok}
use Rattle.pcap_file.specs.declared.format.Head.{Head}
use Rattle.pcap_file.specs.declared.format.Ending.{Ending}
use Rattle.pcap_file.specs.Format.{Record, head_answer, max_captured}
use Rattle.pcap_file.specs.Text.{Reads, IsOfText}
use Rattle.padded_capture.specs.Padding.{missing, padded, padded_records}

-- a record has fewer bytes than its frame had, which had no more than a record may have
abbrev pub is_short : Record → Bool
is_short p = nat_lt (length p.bytes) p.original && not (nat_lt max_captured p.original)

-- the record with zeros where bytes are missing
abbrev pub whole_record : Record → Record
whole_record p = record {
  secs = p.secs;
  micros = p.micros;
  original = p.original;
  bytes = p.bytes ++ replicate (missing (is_short p) (length p.bytes) p.original) 0;
}

-- the header of a padded capture is that of the capture, and behind it the records are padded
abbrev pub HeaderStays : Type 0
HeaderStays = (head : Head) (text : List ℕ) → head_answer text ≡ Ok head
    → (head_answer (padded text) ≡ Ok head) × (drop 24 (padded text) ≡ padded_records head.order (drop 24 text))

-- behind a header, what is read of the padded records is what is read of the records, each with zeros where bytes are missing, up
-- to the same ending
abbrev pub RecordsAreWhole : Type 0
RecordsAreWhole = (head : Head) (given : ℕ) (text : List ℕ) (ps : List Record) (ending : Ending) → IsOfText ending
    → Reads head given text ps ending → Reads head given (padded_records head.order text) (map whole_record ps) ending
