-- A capture whose cut records are as long as their frames were: what is missing of one is zeros.
use Rattle.std.specs.Prelude.{ℕ, zero, suc, ◌-◌, not, ◌&&◌, nat_lt, Bool, List, ◌++◌, length, take, drop, slice_range, replicate, if◌then◌else◌, Option}
use Rattle.std.specs.Prelude.{Some, None}
use Rattle.pcap_file.specs.declared.format.Order.{Order}
use Rattle.pcap_file.specs.declared.format.Order.TheVariants.{Big}
use Rattle.pcap_file.specs.declared.format.Fraction.{Fraction}
use Rattle.pcap_file.specs.Format.{number_in, magic_of, max_captured}

-- how many bytes of its frame the record that a text begins with has, and how many the frame had
abbrev pub captured_in : Order → List ℕ → ℕ
captured_in order text = number_in order 8 4 text

abbrev pub original_in : Order → List ℕ → ℕ
original_in order text = number_in order 12 4 text

-- the frame had more bytes than were captured, and no more than a record may have
abbrev pub is_cut : Order → List ℕ → Bool
is_cut order text = nat_lt (captured_in order text) (original_in order text) && not (nat_lt max_captured (original_in order text))

-- how many bytes are missing of a record that was cut, or wasn't
abbrev pub missing : Bool → ℕ → ℕ → ℕ
missing cut captured original = if cut then original - captured else 0

abbrev pub missing_in : Order → List ℕ → ℕ
missing_in order text = missing (is_cut order text) (captured_in order text) (original_in order text)

-- the 16 bytes that a record begins with: where it was cut, the captured length is what the original one is
abbrev pub mended : Bool → List ℕ → List ℕ
mended cut text = if cut then take 8 text ++ (slice_range text 12 16 ++ slice_range text 12 16) else take 16 text

abbrev pub whole_head : Order → List ℕ → List ℕ
whole_head order text = mended (is_cut order text) text

-- so many bytes of a text, so many zeros, and then what is made of the rest; a text that has fewer bytes is as it is
abbrev pub followed : (List ℕ → List ℕ) → ℕ → ℕ → List ℕ → List ℕ
followed behind plain zero_count text = if nat_lt (length text) plain then text else take plain text ++ (replicate zero_count 0 ++ behind (drop plain text))

-- the first records of a text, of which there are no more than it has bytes
abbrev pub padded_within : Order → ℕ → List ℕ → List ℕ
padded_within order zero text = text
padded_within order (suc n) text =
    if nat_lt (length text) 16 then text
    else whole_head order text ++ followed (padded_within order n) (captured_in order text) (missing_in order text) (drop 16 text)

-- the records behind a file header
unfoldable pub padded_records : Order → List ℕ → List ℕ
padded_records order text = padded_within order (length text) text

-- what begins with the four bytes that name an order is padded behind its header, and all else is as it is
abbrev pub padded_in : Option (Order × Fraction) → List ℕ → List ℕ
padded_in None text = text
padded_in (Some form) text = if nat_lt (length text) 24 then text else take 24 text ++ padded_records form.0 (drop 24 text)

unfoldable pub padded : List ℕ → List ℕ
padded text = padded_in (magic_of (number_in Big 0 4 text)) text
