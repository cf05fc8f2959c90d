-- The first records of a capture, as many as are to be kept.
use Rattle.std.specs.Prelude.{◌≡◌, ◌≤◌, ◌⊎◌, ◌++◌, ◌∷◌, ℕ, List, [], length, nat_lt, if◌then◌else◌}
use Rattle.pcap_file.specs.Format.{Record}

-- records of which at most so many are to be kept, and those that are
pub record Sparing : Type 0 where
  pub limit : ℕ
  pub kept : List Record
  pub all : List Record

-- one record more
abbrev pub one_more : Sparing → Record → Sparing
one_more f p = record { limit = f.limit; kept = if nat_lt (length f.kept) f.limit then f.kept ++ p ∷ [] else f.kept; all = f.all ++ p ∷ [] }

-- no more are kept
abbrev pub stopped : Sparing → Sparing
stopped f = record { limit = length f.kept; kept = f.kept; all = f.all }

-- no more are kept than at first may be, and as many may still be, or those that are kept settle it
abbrev pub IsBounded : (List Record → Type 0) → ℕ → Sparing → Type 0
IsBounded Settle limit f = (length f.kept ≤ limit) × ((f.limit ≡ limit) ⊎ (Settle f.kept × (f.limit ≤ length f.kept)))

-- the first of some records are kept, of the others their count
pub record IsSplit (Settle : List Record → Type 0) (limit : ℕ) (all kept : List Record) (others : ℕ) : Type 0 where
  pub rest : List Record
  pub is : all ≡ kept ++ rest
  pub count : others ≡ length rest
  -- there are others only where as many are kept as may be, or where those that are kept settle it
  pub full : (rest ≡ []) ⊎ (limit ≤ length kept) ⊎ Settle kept
