-- The last block, and what its growth makes of the items.
use Rattle.std.proofs.Common.{◌≡◌, ℕ, ◌+◌, ◌-◌, ◌<◌, ◌≤◌, min, zero, suc, List, [], ◌∷◌, ◌++◌, length, get_or, set, refl, sym, ap, ◌∙◌, subst, arith, append_assoc, length-append}
use Rattle.std.proofs.lemmas.List.{append-nil, get_or-set_same, get_or-set_other, get_or_append_left, get_or_default}
use Rattle.std.specs.Prelude.{Vec, vec_len, vec_capacity}
use Rattle.block_list.specs.PrivateBlocks.{items_of, room_of, AreBlocks, IsOpen, FullStay}

module _ {T Z : Type 0} where
  -- the room of the last block
  pub last_room : (size k : ℕ) (v : Vec T Z) (bs : List (Vec T Z)) → suc k ≡ length bs → v ≡ get_or bs k v
      → room_of size bs ≡ min (vec_capacity v) size - length v.items
  unfolding room_of
  last_room size k v [] n h = let no : ⊥ = omega (arith, n) in absurd no
  last_room size zero v (b ∷ []) n h = ap (λ (w : Vec T Z). min (vec_capacity w) size - length w.items) (sym h)
  last_room size (suc k) v (b ∷ []) n h = let no : ⊥ = omega (arith, n) in absurd no
  last_room size zero v (b ∷ c ∷ cs) n h = let no : ⊥ = omega (arith, n) in absurd no
  last_room size (suc k) v (b ∷ c ∷ cs) n h = last_room size k v (c ∷ cs) (omega (arith, n)) h

  pub room_none : (size : ℕ) (bs : List (Vec T Z)) → length bs ≡ 0 → 0 ≡ room_of size bs
  unfolding room_of
  room_none size [] n = refl
  room_none size (b ∷ bs) n = let no : ⊥ = omega (arith, n) in absurd no

  -- where there is room there is a block
  pub room_some : (size : ℕ) (bs : List (Vec T Z)) → 0 < room_of size bs → 0 < length bs
  unfolding room_of
  room_some size [] h = h
  room_some size (b ∷ bs) h = omega arith

  pub block_low : (size k : ℕ) (v : Vec T Z) (bs : List (Vec T Z)) → AreBlocks size bs → k < length bs → v ≡ get_or bs k v → length v.items ≤ size
  unfolding AreBlocks
  block_low size k v [] all low h = let no : ⊥ = omega (arith, low) in absurd no
  block_low size zero v (b ∷ bs) all low h = subst (λ (w : Vec T Z). length w.items ≤ size) (sym h) all.0
  block_low size (suc k) v (b ∷ bs) all low h = block_low size k v bs all.2 (omega (arith, low)) h

  pub is_open : (size k : ℕ) (v : Vec T Z) (bs : List (Vec T Z)) → suc k ≡ length bs → v ≡ get_or bs k v → IsOpen size bs → length v.items < size
  unfolding IsOpen
  is_open size k v [] n h o = absurd o
  is_open size zero v (b ∷ []) n h o = subst (λ (w : Vec T Z). length w.items < size) (sym h) o
  is_open size (suc k) v (b ∷ []) n h o = let no : ⊥ = omega (arith, n) in absurd no
  is_open size zero v (b ∷ c ∷ cs) n h o = let no : ⊥ = omega (arith, n) in absurd no
  is_open size (suc k) v (b ∷ c ∷ cs) n h o = is_open size k v (c ∷ cs) (omega (arith, n)) h o

  pub open_is : (size k : ℕ) (v : Vec T Z) (bs : List (Vec T Z)) → suc k ≡ length bs → v ≡ get_or bs k v → length v.items < size → IsOpen size bs
  unfolding IsOpen
  open_is size k v [] n h few = let no : ⊥ = omega (arith, n) in absurd no
  open_is size zero v (b ∷ []) n h few = subst (λ (w : Vec T Z). length w.items < size) h few
  open_is size (suc k) v (b ∷ []) n h few = let no : ⊥ = omega (arith, n) in absurd no
  open_is size zero v (b ∷ c ∷ cs) n h few = let no : ⊥ = omega (arith, n) in absurd no
  open_is size (suc k) v (b ∷ c ∷ cs) n h few = open_is size k v (c ∷ cs) (omega (arith, n)) h few

  pub open_some : (size : ℕ) (bs : List (Vec T Z)) → IsOpen size bs → 0 < length bs
  unfolding IsOpen
  open_some size [] h = absurd h
  open_some size (b ∷ bs) h = omega arith

  -- a block written over by one with these items
  pub items_kept : (k : ℕ) (v w : Vec T Z) (bs : List (Vec T Z)) → v ≡ get_or bs k v → w.items ≡ v.items → items_of (set bs k w) ≡ items_of bs
  unfolding items_of
  items_kept k v w [] h e = refl
  items_kept zero v w (b ∷ bs) h e = ap (λ (xs : List T). xs ++ items_of bs) (e ∙ ap (λ (u : Vec T Z). u.items) h)
  items_kept (suc k) v w (b ∷ bs) h e = ap (λ (xs : List T). b.items ++ xs) (items_kept k v w bs h e)

  -- the last block with one more item
  pub items_pushed : (k : ℕ) (v w : Vec T Z) (bs : List (Vec T Z)) (x : T) → suc k ≡ length bs → v ≡ get_or bs k v → w.items ≡ v.items ++ x ∷ [] → items_of (set bs k w) ≡ items_of bs ++ x ∷ []
  unfolding items_of
  items_pushed k v w [] x n h e = let no : ⊥ = omega (arith, n) in absurd no
  items_pushed zero v w (b ∷ []) x n h e = append-nil w.items ∙ e ∙ ap (λ (u : Vec T Z). u.items ++ x ∷ []) h ∙ sym (ap (λ (xs : List T). xs ++ x ∷ []) (append-nil b.items))
  items_pushed (suc k) v w (b ∷ []) x n h e = let no : ⊥ = omega (arith, n) in absurd no
  items_pushed zero v w (b ∷ c ∷ cs) x n h e = let no : ⊥ = omega (arith, n) in absurd no
  items_pushed (suc k) v w (b ∷ c ∷ cs) x n h e =
      ap (λ (xs : List T). b.items ++ xs) (items_pushed k v w (c ∷ cs) x (omega (arith, n)) h e) ∙ sym (append_assoc b.items (items_of (c ∷ cs)) (x ∷ []))

  length_set : (k : ℕ) (w : Vec T Z) (bs : List (Vec T Z)) → length (set bs k w) ≡ length bs
  length_set k w [] = refl
  length_set zero w (b ∷ bs) = refl
  length_set (suc k) w (b ∷ bs) = ap (λ (n : ℕ). suc n) (length_set k w bs)

  -- a block written over by one that is as full as its place wants
  pub blocks_set : (size k : ℕ) (w : Vec T Z) (bs : List (Vec T Z)) → AreBlocks size bs → length w.items ≤ size → (suc k < length bs → length w.items ≡ size) → AreBlocks size (set bs k w)
  unfolding AreBlocks
  blocks_set size k w [] all low full = all
  blocks_set size zero w (b ∷ bs) all low full = (low, λ more. full (omega (arith, more)), all.2)
  blocks_set size (suc k) w (b ∷ bs) all low full =
      (all.0, λ more. all.1 (subst (λ (n : ℕ). 0 < n) (length_set k w bs) more), blocks_set size k w bs all.2 low (λ more. full (omega (arith, more))))

  -- a new block behind the others, all of which are full
  pub blocks_begun : (size : ℕ) (w : Vec T Z) (bs : List (Vec T Z)) → AreBlocks size bs → (IsOpen size bs → ⊥) → length w.items ≤ size → AreBlocks size (bs ++ w ∷ [])
  unfolding AreBlocks IsOpen
  blocks_begun size w [] all full low = (low, λ more. (let no : ⊥ = omega (arith, more) in absurd no), all)
  blocks_begun size w (b ∷ []) all full low = (all.0, λ _. omega (arith, full, all.0), (low, λ more. (let no : ⊥ = omega (arith, more) in absurd no), all.2))
  blocks_begun size w (b ∷ c ∷ cs) all full low = (all.0, λ _. all.1 (omega arith), blocks_begun size w (c ∷ cs) all.2 full low)

  pub items_begun : (w : Vec T Z) (bs : List (Vec T Z)) → w.items ≡ [] → items_of (bs ++ w ∷ []) ≡ items_of bs
  unfolding items_of
  items_begun w [] e = append-nil w.items ∙ e
  items_begun w (b ∷ bs) e = ap (λ (xs : List T). b.items ++ xs) (items_begun w bs e)

  pub open_begun : (size : ℕ) (w : Vec T Z) (bs : List (Vec T Z)) → length w.items < size → IsOpen size (bs ++ w ∷ [])
  unfolding IsOpen
  open_begun size w [] low = low
  open_begun size w (b ∷ []) low = low
  open_begun size w (b ∷ c ∷ cs) low = open_begun size w (c ∷ cs) low

  -- the last block written over
  pub blocks_last : (size k : ℕ) (w : Vec T Z) (bs : List (Vec T Z)) → AreBlocks size bs → suc k ≡ length bs → length w.items ≤ size → AreBlocks size (set bs k w)
  blocks_last size k w bs all n low = blocks_set size k w bs all low (λ more. (let no : ⊥ = omega (arith, n, more) in absurd no))

  pub room_last : (size k : ℕ) (w : Vec T Z) (bs : List (Vec T Z)) → suc k ≡ length bs → room_of size (set bs k w) ≡ min (vec_capacity w) size - length w.items
  room_last size k w bs n =
      let few : k < length bs = omega (arith, n) in
      last_room size k w (set bs k w) (n ∙ sym (length_set k w bs)) (sym (get_or-set_same bs k w w few))

  -- the last block with one more item
  pub room_pushed : (size k : ℕ) (v w : Vec T Z) (bs : List (Vec T Z)) (x : T) → suc k ≡ length bs → v ≡ get_or bs k v → w.items ≡ v.items ++ x ∷ [] → vec_capacity w ≡ vec_capacity v
      → room_of size (set bs k w) ≡ room_of size bs - 1
  room_pushed size k v w bs x n h e cap =
      let one : length w.items ≡ length v.items + 1 = ap length e ∙ length-append v.items (x ∷ []) in
      let was : room_of size bs ≡ min (vec_capacity v) size - length v.items = last_room size k v bs n h in
      let now : room_of size (set bs k w) ≡ min (vec_capacity w) size - length w.items = room_last size k w bs n in
      grind (arith, one, was, now, cap)

  -- the index before the number of blocks is that of the last one
  pub at_end : (V : Vec (Vec T Z) Z) (n : ℕ) → n ≡ vec_len V → 0 < length V.items → suc (n - 1) ≡ length V.items
  at_end V n is some = let long : vec_len V ≡ length V.items = V.ok.0 in omega (arith, is, some, long)

  -- where there is room, a block has fewer items than it may have, and memory for more
  pub room_free : (size k : ℕ) (v : Vec T Z) (bs : List (Vec T Z)) → suc k ≡ length bs → v ≡ get_or bs k v → 0 < room_of size bs → length v.items < min (vec_capacity v) size
  room_free size k v bs n h some = let was : room_of size bs ≡ min (vec_capacity v) size - length v.items = last_room size k v bs n h in omega (arith, was, some)

  pub open_none : (size : ℕ) (bs : List (Vec T Z)) → length bs ≡ 0 → IsOpen size bs → ⊥
  unfolding IsOpen
  open_none size [] n h = h
  open_none size (b ∷ bs) n h = omega (arith, n)

  -- a block that isn't full is written over
  pub stay_set : (size k : ℕ) (v w : Vec T Z) (bs : List (Vec T Z)) → k < length bs → v ≡ get_or bs k v → length v.items < size → FullStay size bs (set bs k w)
  stay_set size k v w bs there is few = λ j u low h full.
      let apart : j ≡ k → ⊥ = λ e.
      (let same : u ≡ v = h ∙ ap (λ (i : ℕ). get_or bs i u) e ∙ get_or_default bs k u v there ∙ sym is in
      let long : length v.items ≡ size = subst (λ (x : Vec T Z). length x.items ≡ size) same full in
      omega (arith, long, few)) in
      h ∙ sym (get_or-set_other bs k j w u apart)

  pub stay_begun : (size : ℕ) (w : Vec T Z) (bs : List (Vec T Z)) → FullStay size bs (bs ++ w ∷ [])
  stay_begun size w bs = λ j u low h full. h ∙ sym (get_or_append_left bs (w ∷ []) u j low)
