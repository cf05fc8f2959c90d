-- The records of a capture in one store.
use Rattle.std.specs.Prelude.{◌≡◌, ◌<◌, ◌≤◌, ℕ, List, [], ◌∷◌, ◌++◌, length, map, slice_index_or, slice_range}
use Rattle.pcap_file.specs.Format.{Record}
use Rattle.run_records.specs.declared.blocks.ByteBlocks.{ByteBlocks}
use Rattle.run_records.specs.declared.blocks.Place.{Place}
use Rattle.run_records.specs.declared.records.Entry.{Entry}

-- what lies in each block, and last in the open one
abbrev pub all_blocks : ByteBlocks → List (List ℕ)
all_blocks b = map (λ v. v.items) b.full.items ++ b.open.items ∷ []

-- the bytes at a place
abbrev pub bytes_at : List (List ℕ) → Place → List ℕ
bytes_at blocks p = slice_range (slice_index_or blocks p.block []) p.from p.to

-- a place in one of these blocks
pub record IsPlace (blocks : List (List ℕ)) (p : Place) : Type 0 where
  pub among : p.block < length blocks
  pub ordered : p.from ≤ p.to
  pub within : p.to ≤ length (slice_index_or blocks p.block [])

-- what lies at a place of the first lies there in the others
abbrev pub Keeps : List (List ℕ) → List (List ℕ) → Type 0
Keeps blocks blocks' = (p : Place) → IsPlace blocks p → IsPlace blocks' p × (bytes_at blocks' p ≡ bytes_at blocks p)

-- the record of an entry, whose bytes lie in these blocks
abbrev pub record_at : List (List ℕ) → Entry → Record
record_at blocks e = record { secs = e.secs; micros = e.micros; original = e.original; bytes = bytes_at blocks e.place }

-- its bytes lie in these blocks
abbrev pub IsHeld : List (List ℕ) → Entry → Type 0
IsHeld blocks e = IsPlace blocks e.place
