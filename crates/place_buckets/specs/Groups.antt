-- Groups of places: each place has a hash, and is in a lane of its bucket's group or in the group's chain.
use Rattle.std.specs.Prelude.{◌≡◌, ℕ, zero, suc, ◌-◌, ◌<◌, ◌≤◌, ◌/◌, ◌^◌, ◌⊎◌, List, [], ◌∷◌, length, get_or, slice_index_or, bit_and}
use Rattle.place_buckets.specs.declared.groups.Group.{Group}
use Rattle.place_buckets.specs.declared.groups.Link.{Link}
use Rattle.place_buckets.specs.declared.lanes.TheConstants.{LANES}

-- what a place that is none has
abbrev pub nothing : Link
nothing = record { hash = 0; next = 0 }

-- what a bucket that is none has
abbrev pub no_group : Group
no_group = record { tags = []; overflow = 0; places = [] }

abbrev pub hash_of : Link → ℕ
hash_of link = link.hash

-- the place after a place, 0 where there is none
unfoldable pub next_at : List Link → ℕ → ℕ
next_at links p = (slice_index_or links (p - 1) nothing).next

-- a place's hash
unfoldable pub hash_at : List Link → ℕ → ℕ
hash_at links p = (slice_index_or links (p - 1) nothing).hash

-- the first place of a bucket's chain, 0 where there is none
unfoldable pub overflow_at : List Group → ℕ → ℕ
overflow_at groups b = (slice_index_or groups b no_group).overflow

-- the place in a lane of a bucket, 0 where it is free
unfoldable pub lane_at : List Group → ℕ → ℕ → ℕ
lane_at groups b i = get_or (slice_index_or groups b no_group).places i 0

-- a lane's tag
unfoldable pub tag_at : List Group → ℕ → ℕ → ℕ
tag_at groups b i = get_or (slice_index_or groups b no_group).tags i 0

-- the bucket of a hash
unfoldable pub bucket_of : ℕ → ℕ → ℕ
bucket_of count hash = bit_and hash (count - 1)

-- the tag of a hash
unfoldable pub tag_of : ℕ → ℕ
tag_of hash = hash / 2 ^ 24

-- the place is in the list
abbrev pub IsAmong : ℕ → List ℕ → Type 0
IsAmong p [] = ⊥
IsAmong p (x ∷ xs) = (p ≡ x) ⊎ IsAmong p xs

-- a walk from the first place passes the places of the list, and then ends
abbrev pub Linked : (ℕ → ℕ) → ℕ → List ℕ → Type 0
Linked next first [] = first ≡ 0
Linked next first (p ∷ ps) = (first ≡ p) × (0 < p) × Linked next (next p) ps

-- A walk from the first place passes none above n, and ends.
pub record IsChain (next : ℕ → ℕ) (n first : ℕ) : Type 0 where
  pub places : List ℕ
  pub linked : Linked next first places
  pub low : (p : ℕ) → IsAmong p places → p ≤ n

-- Such a walk passes the place.
pub record Inside (next : ℕ → ℕ) (n place first : ℕ) : Type 0 where
  pub chain : IsChain next n first
  pub there : IsAmong place chain.places

-- A walk from the first place passes the places of a bucket among those that are chained, and no others.
pub record Chain (next home : ℕ → ℕ) (chained : ℕ → Type 0) (bucket first : ℕ) : Type 0 where
  pub places : List ℕ
  pub linked : Linked next first places
  pub among : (p : ℕ) → IsAmong p places → chained p
  pub within : (p : ℕ) → IsAmong p places → home p ≡ bucket
  pub whole : (p : ℕ) → 0 < p → chained p → home p ≡ bucket → IsAmong p places

-- a place's bucket
abbrev pub home_in : ℕ → (ℕ → ℕ) → ℕ → ℕ
home_in count hash p = bucket_of count (hash p)

-- Each bucket's chain has all its places among those that are chained.
pub record Chained (count : ℕ) (next hash overflow : ℕ → ℕ) (chained : ℕ → Type 0) : Type 0 where
  pub chain : (b : ℕ) → b < count → Chain next (home_in count hash) chained b (overflow b)

-- a lane of the place's bucket has the place
abbrev pub IsInLane : ℕ → (ℕ → ℕ) → (ℕ → ℕ → ℕ) → ℕ → Type 0
IsInLane count hash lane p = (i : ℕ) × (i < LANES) × (lane (home_in count hash p) i ≡ p)

-- A place in a lane is among those that are there. It is in its bucket's group beside its tag, and in no two lanes.
pub record Laned (count : ℕ) (hash : ℕ → ℕ) (lane tag : ℕ → ℕ → ℕ) (there : ℕ → Type 0) : Type 0 where
  pub among : (b i : ℕ) → b < count → i < LANES → 0 < lane b i → there (lane b i)
  pub within : (b i : ℕ) → b < count → i < LANES → 0 < lane b i → home_in count hash (lane b i) ≡ b
  pub tagged : (b i : ℕ) → b < count → i < LANES → 0 < lane b i → tag b i ≡ tag_of (hash (lane b i))
  pub once : (b i j : ℕ) → b < count → i < LANES → j < LANES → 0 < lane b i → lane b i ≡ lane b j → i ≡ j

-- All places that are there are in lanes or in chains.
pub record Grouped (count : ℕ) (next hash : ℕ → ℕ) (lane tag : ℕ → ℕ → ℕ) (overflow : ℕ → ℕ) (there : ℕ → Type 0) : Type 0 where
  pub laned : Laned count hash lane tag there
  pub chained : Chained count next hash overflow (λ p. there p × (IsInLane count hash lane p → ⊥))

-- Places 1 to n are there.
abbrev pub AreGrouped : List Group → List Link → ℕ → Type 0
AreGrouped groups links n = Grouped (length groups) (next_at links) (hash_at links) (lane_at groups) (tag_at groups) (overflow_at groups) (λ p. p ≤ n)

-- Places 1 to n are there, all but one.
abbrev pub AreGroupedBut : List Group → List Link → ℕ → ℕ → Type 0
AreGroupedBut groups links n place = Grouped (length groups) (next_at links) (hash_at links) (lane_at groups) (tag_at groups) (overflow_at groups)
    (λ p. (p ≤ n) × (p ≡ place → ⊥))

-- how many places a walk of at most so many steps passes
unfoldable pub steps : ℕ → (ℕ → ℕ) → ℕ → ℕ
steps zero next p = 0
steps (suc n) next zero = 0
steps (suc n) next (suc p) = suc (steps n next (next (suc p)))
