-- Where an item is: in which block, and where in it.
use Rattle.std.proofs.Common.{◌≡◌, ℕ, ◌+◌, ◌-◌, ◌*◌, ◌/◌, ◌%◌, ◌<◌, ◌≤◌, min, zero, suc, List, [], ◌∷◌, ◌++◌, length, get_or, set, refl, sym, ap, ◌∙◌, subst, arith, length-append}
use Rattle.std.proofs.Math.Nat.{mod-lt, suc-mul, zero-mul}
use Rattle.std.proofs.lemmas.Nat.{div-add-mod'}
use Rattle.std.proofs.lemmas.List.{get_or_append_left, get_or-append-add, set-append_left, set-append_right, length-set}
use Rattle.std.specs.Prelude.{Vec, vec_capacity}
use Rattle.block_list.specs.Blocks.{Blocks, with_item}
use Rattle.block_list.specs.PrivateBlocks.{items_of, room_of, AreBlocks}
use Rattle.block_list.proofs.Last.{block_low, blocks_set}

first : (size r : ℕ) → r ≡ zero * size + r
first size r = let none : zero * size ≡ 0 = zero-mul size in omega (arith, none)

-- a list by its fields
abbrev pub seen : {T : Type 0} → List T → ℕ → Blocks T
seen items room = record { items = items; room = room }

module _ {T Z : Type 0} where
  -- there are at most so many items
  pub counted : (size : ℕ) (bs : List (Vec T Z)) → AreBlocks size bs → length (items_of bs) ≤ length bs * size
  unfolding AreBlocks items_of
  counted size [] all = omega arith
  counted size (b ∷ bs) all =
      let rest : length (items_of bs) ≤ length bs * size = counted size bs all.2 in
      let one : length b.items ≤ size = all.0 in
      let both : length (b.items ++ items_of bs) ≡ length b.items + length (items_of bs) = length-append b.items (items_of bs) in
      let more : suc (length bs) * size ≡ length bs * size + size = suc-mul (length bs) size in
      omega (arith, rest, one, both, more)

  some_block : (size : ℕ) (bs : List (Vec T Z)) → 0 < length (items_of bs) → 0 < length bs
  unfolding items_of
  some_block size [] h = h
  some_block size (b ∷ bs) h = omega arith

  -- where an item is in a later block, the first one is full
  full_first : (size q r : ℕ) (b : Vec T Z) (bs : List (Vec T Z)) → AreBlocks size (b ∷ bs) → suc q * size + r < length (items_of (b ∷ bs)) → length b.items ≡ size
  unfolding AreBlocks items_of
  full_first size q r b bs all low =
      let both : length (b.items ++ items_of bs) ≡ length b.items + length (items_of bs) = length-append b.items (items_of bs) in
      let more : suc q * size ≡ q * size + size = suc-mul q size in
      let one : length b.items ≤ size = all.0 in
      let rest : 0 < length (items_of bs) = omega (arith, both, more, one, low) in
      all.1 (some_block size bs rest)

  behind : (size q r : ℕ) (b : Vec T Z) (bs : List (Vec T Z)) → AreBlocks size (b ∷ bs) → suc q * size + r < length (items_of (b ∷ bs)) → q * size + r < length (items_of bs)
  unfolding items_of
  behind size q r b bs all low =
      let both : length (b.items ++ items_of bs) ≡ length b.items + length (items_of bs) = length-append b.items (items_of bs) in
      let more : suc q * size ≡ q * size + size = suc-mul q size in
      let full : length b.items ≡ size = full_first size q r b bs all low in
      omega (arith, both, more, full, low)

  -- there is a block for each item
  block_there : (size q r : ℕ) (bs : List (Vec T Z)) → AreBlocks size bs → q * size + r < length (items_of bs) → q < length bs
  unfolding AreBlocks items_of
  block_there size q r [] all low = let no : ⊥ = omega (arith, low) in absurd no
  block_there size zero r (b ∷ bs) all low = omega arith
  block_there size (suc q) r (b ∷ bs) all low = let h : q < length bs = block_there size q r bs all.2 (behind size q r b bs all low) in omega (arith, h)

  -- the item is in that block
  item_there : (size q r : ℕ) (v : Vec T Z) (bs : List (Vec T Z)) → AreBlocks size bs → r < size → q * size + r < length (items_of bs) → v ≡ get_or bs q v → r < length v.items
  unfolding AreBlocks items_of
  item_there size q r v [] all small low h = let no : ⊥ = omega (arith, low) in absurd no
  item_there size zero r v (b ∷ []) all small low h =
      let both : length (b.items ++ []) ≡ length b.items + 0 = length-append b.items [] in
      let none : zero * size ≡ 0 = zero-mul size in
      let here : r < length b.items = omega (arith, both, low, none) in
      subst (λ (u : Vec T Z). r < length u.items) (sym h) here
  item_there size zero r v (b ∷ c ∷ cs) all small low h =
      let full : length b.items ≡ size = all.1 (omega arith) in
      let here : r < length b.items = omega (arith, full, small) in
      subst (λ (u : Vec T Z). r < length u.items) (sym h) here
  item_there size (suc q) r v (b ∷ bs) all small low h = item_there size q r v bs all.2 small (behind size q r b bs all low) h

  item_read : (size q r : ℕ) (v : Vec T Z) (d : T) (bs : List (Vec T Z)) → AreBlocks size bs → r < size → q * size + r < length (items_of bs) → v ≡ get_or bs q v
      → get_or v.items r d ≡ get_or (items_of bs) (q * size + r) d
  unfolding AreBlocks items_of
  item_read size q r v d [] all small low h = let no : ⊥ = omega (arith, low) in absurd no
  item_read size zero r v d (b ∷ bs) all small low h =
      let there : r < length v.items = item_there size zero r v (b ∷ bs) all small low h in
      let here : r < length b.items = subst (λ (u : Vec T Z). r < length u.items) h there in
      ap (λ (u : Vec T Z). get_or u.items r d) h ∙ sym (get_or_append_left b.items (items_of bs) d r here)
      ∙ ap (λ (n : ℕ). get_or (b.items ++ items_of bs) n d) (first size r)
  item_read size (suc q) r v d (b ∷ bs) all small low h =
      let full : length b.items ≡ size = full_first size q r b bs all low in
      let more : suc q * size ≡ q * size + size = suc-mul q size in
      let place : suc q * size + r ≡ length b.items + (q * size + r) = omega (arith, full, more) in
      item_read size q r v d bs all.2 small (behind size q r b bs all low) h ∙ sym (get_or-append-add b.items (items_of bs) (q * size + r) d)
      ∙ ap (λ (n : ℕ). get_or (b.items ++ items_of bs) n d) (sym place)

  item_written : (size q r : ℕ) (v w : Vec T Z) (x : T) (bs : List (Vec T Z)) → AreBlocks size bs → r < size → q * size + r < length (items_of bs) → v ≡ get_or bs q v → w.items ≡ set v.items r x
      → items_of (set bs q w) ≡ set (items_of bs) (q * size + r) x
  unfolding AreBlocks items_of
  item_written size q r v w x [] all small low h e = let no : ⊥ = omega (arith, low) in absurd no
  item_written size zero r v w x (b ∷ bs) all small low h e =
      let there : r < length v.items = item_there size zero r v (b ∷ bs) all small low h in
      let here : r < length b.items = subst (λ (u : Vec T Z). r < length u.items) h there in
      ap (λ (xs : List T). xs ++ items_of bs) (e ∙ ap (λ (u : Vec T Z). set u.items r x) h) ∙ sym (set-append_left b.items (items_of bs) r x here)
      ∙ ap (λ (n : ℕ). set (b.items ++ items_of bs) n x) (first size r)
  item_written size (suc q) r v w x (b ∷ bs) all small low h e =
      let full : length b.items ≡ size = full_first size q r b bs all low in
      let more : suc q * size ≡ q * size + size = suc-mul q size in
      let past : length b.items ≤ suc q * size + r = omega (arith, full, more) in
      let left : suc q * size + r - length b.items ≡ q * size + r = omega (arith, full, more) in
      ap (λ (xs : List T). b.items ++ xs) (item_written size q r v w x bs all.2 small (behind size q r b bs all low) h e ∙ ap (λ (n : ℕ). set (items_of bs) n x) (sym left))
      ∙ sym (set-append_right b.items (items_of bs) (length b.items) (suc q * size + r) x refl past)

  -- a block that isn't the last one is full
  block_full : (size k : ℕ) (v : Vec T Z) (bs : List (Vec T Z)) → AreBlocks size bs → suc k < length bs → v ≡ get_or bs k v → length v.items ≡ size
  unfolding AreBlocks
  block_full size k v [] all low h = let no : ⊥ = omega (arith, low) in absurd no
  block_full size zero v (b ∷ bs) all low h = ap (λ (u : Vec T Z). length u.items) h ∙ all.1 (omega (arith, low))
  block_full size (suc k) v (b ∷ bs) all low h = block_full size k v bs all.2 (omega (arith, low)) h

  -- a block written over by one of the same length
  pub blocks_kept : (size k : ℕ) (v w : Vec T Z) (bs : List (Vec T Z)) → AreBlocks size bs → k < length bs → v ≡ get_or bs k v → length w.items ≡ length v.items → AreBlocks size (set bs k w)
  blocks_kept size k v w bs all low h e =
      blocks_set size k w bs all (subst (λ (n : ℕ). n ≤ size) (sym e) (block_low size k v bs all low h)) (λ more. e ∙ block_full size k v bs all more h)

  pub room_kept : (size k : ℕ) (v w : Vec T Z) (bs : List (Vec T Z)) → v ≡ get_or bs k v → length w.items ≡ length v.items → vec_capacity w ≡ vec_capacity v → room_of size (set bs k w) ≡ room_of size bs
  unfolding room_of
  room_kept size k v w [] h e cap = refl
  room_kept size zero v w (b ∷ []) h e cap =
      ap (λ (n : ℕ). min n size - length w.items) (cap ∙ ap (λ (u : Vec T Z). vec_capacity u) h) ∙ ap (λ (n : ℕ). min (vec_capacity b) size - n) (e ∙ ap (λ (u : Vec T Z). length u.items) h)
  room_kept size (suc k) v w (b ∷ []) h e cap = refl
  room_kept size zero v w (b ∷ c ∷ cs) h e cap = refl
  room_kept size (suc zero) v w (b ∷ c ∷ cs) h e cap = room_kept size zero v w (c ∷ cs) h e cap
  room_kept size (suc (suc k)) v w (b ∷ c ∷ cs) h e cap = room_kept size (suc k) v w (c ∷ cs) h e cap

  -- the block and the index in it of an item
  placed : (size at : ℕ) (bs : List (Vec T Z)) → at < length (items_of bs) → at / size * size + at % size < length (items_of bs)
  placed size at bs low = subst (λ (n : ℕ). n < length (items_of bs)) (sym (div-add-mod' at size)) low

  pub in_blocks : (size at : ℕ) (bs : List (Vec T Z)) → AreBlocks size bs → at < length (items_of bs) → at / size < length bs
  in_blocks size at bs all low = block_there size (at / size) (at % size) bs all (placed size at bs low)

  pub in_block : (size at : ℕ) (v : Vec T Z) (bs : List (Vec T Z)) → 0 < size → AreBlocks size bs → at < length (items_of bs) → v ≡ get_or bs (at / size) v → at % size < length v.items
  in_block size at v bs some all low h = item_there size (at / size) (at % size) v bs all (mod-lt at some) (placed size at bs low) h

  pub read_at : (size at : ℕ) (v : Vec T Z) (d : T) (bs : List (Vec T Z)) → 0 < size → AreBlocks size bs → at < length (items_of bs) → v ≡ get_or bs (at / size) v
      → get_or v.items (at % size) d ≡ get_or (items_of bs) at d
  read_at size at v d bs some all low h =
      item_read size (at / size) (at % size) v d bs all (mod-lt at some) (placed size at bs low) h ∙ ap (λ (n : ℕ). get_or (items_of bs) n d) (div-add-mod' at size)

  pub written_at : (size at : ℕ) (v w : Vec T Z) (x : T) (bs : List (Vec T Z)) → 0 < size → AreBlocks size bs → at < length (items_of bs) → v ≡ get_or bs (at / size) v → w.items ≡ set v.items (at % size) x
      → items_of (set bs (at / size) w) ≡ set (items_of bs) at x
  written_at size at v w x bs some all low h e =
      item_written size (at / size) (at % size) v w x bs all (mod-lt at some) (placed size at bs low) h e ∙ ap (λ (n : ℕ). set (items_of bs) n x) (div-add-mod' at size)

  -- what the list is once a block has an item written over
  pub view_written : (size at : ℕ) (v w : Vec T Z) (x : T) (bs : List (Vec T Z)) → 0 < size → AreBlocks size bs → at < length (items_of bs) → v ≡ get_or bs (at / size) v → w.items ≡ set v.items (at % size) x
      → vec_capacity w ≡ vec_capacity v → seen (items_of (set bs (at / size) w)) (room_of size (set bs (at / size) w)) ≡ with_item (seen (items_of bs) (room_of size bs)) at x
  view_written size at v w x bs some all low h e cap =
      let long : length w.items ≡ length v.items = ap length e ∙ length-set v.items (at % size) x in
      ap (λ (xs : List T). seen xs (room_of size (set bs (at / size) w))) (written_at size at v w x bs some all low h e)
      ∙ ap (λ (n : ℕ). seen (set (items_of bs) at x) n) (room_kept size (at / size) v w bs h long cap)
