-- Blocks of items, of which all but the last are full.
use Rattle.std.specs.Prelude.{◌≡◌, ℕ, ◌-◌, ◌<◌, ◌≤◌, min, List, [], ◌∷◌, ◌++◌, length, slice_index_or, Vec, vec_capacity}

module _ {T Z : Type 0} where
  -- the blocks' items, one block after another
  unfoldable pub items_of : List (Vec T Z) → List T
  items_of [] = []
  items_of (block ∷ blocks) = block.items ++ items_of blocks

  -- all blocks but the last have so many items, and the last one has no more
  unfoldable pub AreBlocks : ℕ → List (Vec T Z) → Type 0
  AreBlocks size [] = Unit {0}
  AreBlocks size (block ∷ blocks) =
      (length block.items ≤ size) × (0 < length blocks → length block.items ≡ size) × AreBlocks size blocks

  -- how many more items the last block takes without more memory
  unfoldable pub room_of : ℕ → List (Vec T Z) → ℕ
  room_of size [] = 0
  room_of size (block ∷ []) = min (vec_capacity block) size - length block.items
  room_of size (block ∷ next ∷ blocks) = room_of size (next ∷ blocks)

  -- there is a last block, and it isn't full
  unfoldable pub IsOpen : ℕ → List (Vec T Z) → Type 0
  IsOpen size [] = ⊥
  IsOpen size (block ∷ []) = length block.items < size
  IsOpen size (block ∷ next ∷ blocks) = IsOpen size (next ∷ blocks)

  -- the blocks that are full stay as they are, where they are
  abbrev pub FullStay : ℕ → List (Vec T Z) → List (Vec T Z) → Type 0
  FullStay size old new =
      (k : ℕ) (v : Vec T Z) → k < length old → v ≡ slice_index_or old k v → length v.items ≡ size → v ≡ slice_index_or new k v
