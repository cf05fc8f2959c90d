-- A record that is written as one piece.
use Rattle.std.proofs.Common.{◌≡◌, ℕ, ◌+◌, List, ◌++◌, length, refl, ap, arith}
use Rattle.pcap_file.specs.Format.{written_record, written_record_head}

-- a record's text is its 16 bytes, and then its bytes
pub written_record-pieces : (secs micros : ℕ) (bytes : List ℕ) → written_record secs micros bytes ≡ written_record_head secs micros (length bytes) ++ bytes
unfolding written_record
written_record-pieces secs micros bytes = refl

-- a record's 16 bytes with this length, and then its bytes
pub pieces-written_record : (secs micros n : ℕ) (bytes : List ℕ) → n ≡ length bytes → written_record_head secs micros n ++ bytes ≡ written_record secs micros bytes
unfolding written_record
pieces-written_record secs micros n bytes e = ap (λ (k : ℕ). written_record_head secs micros k ++ bytes) e

-- how long a record's text is
pub length-written_record : (secs micros : ℕ) (bytes : List ℕ) → length (written_record secs micros bytes) ≡ 16 + length bytes
unfolding written_record
length-written_record secs micros bytes = omega arith
