-- What becomes of the touches where a pair is written, put in the place of another, or given a place of its own.
use Rattle.std.proofs.Common.{◌≡◌, ℕ, ◌+◌, ◌-◌, ◌<◌, ◌≤◌, ◌++◌, Bool, true, false, List, [], ◌∷◌, length, get_or, set, take, suc, Some, None, refl, sym, ap, ◌∙◌, subst, arith, inl, inr}
use Rattle.std.specs.Prelude.{IfNone, IfSome, MatchOption, Option, slice_get, slice_index}
use Rattle.std.proofs.lemmas.Bool.{cases_Bool, cases_eq, cases_lt, true≢false}
use Rattle.std.proofs.lemmas.List.{get_or-set_other, get_or-set_same, get_or_append_left, get_or-append_right, length-set, length_push}
use Rattle.std.proofs.lemmas.Option.{slice_get-get_or, slice_get_past}
use Rattle.recent_order.specs.Places.{ArePlaces}
use Rattle.five_tuple.specs.declared.Flow.{Flow}
use Rattle.connection_table.specs.declared.table.Entry.{Entry}
use Rattle.connection_table.specs.Picked.{no_flow, no_entry, pair_at, picked}
use Rattle.connection_table.specs.Recency.{at_clock, moved, retouched}
use Rattle.connection_table.specs.Tables.{EachFlowOnce}
use Rattle.connection_table.specs.Tied.{AreTied, IsPlaceOf, flow_hash, is_of, touches_of}
use Rattle.connection_table.specs.declared.pairs.Pairs.{Pairs}
use Rattle.connection_table.specs.Touches.{same_flow, Touch, last_touch, without}
use Rattle.connection_table.proofs.Once.{absent_take, once_take}
use Rattle.connection_table.proofs.Picked.{AreWithin, IsIn, last_picked, none_picked, others, order_in, order_once, order_within, picked_but_last, picked_first, picked_new, picked_others}
use Rattle.connection_table.proofs.Standing.{same_flow-true}

some_is : {X : Type 0} (a b : X) → Some a ≡ Some b → a ≡ b
some_is a b h = cc

-- within a list the element doesn't rest on what is past its end
pub same_item : (ps : List Touch) (i : ℕ) (d e : Touch) → i < length ps → get_or ps i d ≡ get_or ps i e
same_item ps i d e h = some_is (get_or ps i d) (get_or ps i e) (sym (slice_get-get_or ps i d h) ∙ slice_get-get_or ps i e h)

-- each place's hash is that of its flow
abbrev pub AreHashed : (Flow → ℕ) → List ℕ → List Touch → Type 0
AreHashed hash hashes ps = (k : ℕ) (d : Touch) → k < length ps → slice_index hashes k ≡ hash (get_or ps k d).0

-- a pair is written at its flow's place
pub written : (ps : List Touch) (order : List ℕ) (p : ℕ) (x : Flow) (e : Entry) → ArePlaces (length order) order → length order ≡ length ps → EachFlowOnce (picked ps order) →
    0 < p → p ≤ length ps → same_flow (pair_at ps p).0 x ≡ true → picked (set ps (p - 1) (x, e)) (p ∷ others p order) ≡ (x, e) ∷ without x (picked ps order)
written ps order p x e places long once some low same =
    let within = order_within (length ps) order (subst (λ (n : ℕ). ArePlaces n order) long places).low in
    let inside = order_in p order (places.all p some (omega (arith, low, long))) in
    picked_first ps p (x, e) order some low within ∙ ap (λ (l : List Touch). (x, e) ∷ l) (picked_others ps p x order once (order_once order places.apart) inside same)

pub written_hashed : (hash : Flow → ℕ) (hashes : List ℕ) (ps : List Touch) (p : ℕ) (x : Flow) (e : Entry) → AreHashed hash hashes ps → 0 < p → p ≤ length ps → same_flow (pair_at ps p).0 x ≡ true →
    AreHashed hash hashes (set ps (p - 1) (x, e))
written_hashed hash hashes ps p x e h some low same k d within = elim (cases_eq k (p - 1)) [
  | inl here ↦
      let i : p - 1 < length ps = omega (arith, some, low) in
      ap (slice_index hashes) here ∙ h (p - 1) (no_flow, no_entry) i ∙ ap hash (same_flow-true (pair_at ps p).0 x same)
      ∙ sym (ap (λ (j : ℕ). hash (get_or (set ps (p - 1) (x, e)) j d).0) here ∙ ap (λ (t : Touch). hash t.0) (get_or-set_same ps (p - 1) (x, e) d i))
  | inr other ↦
      let long : length (set ps (p - 1) (x, e)) ≡ length ps = length-set ps (p - 1) (x, e) in
      h k d (omega (arith, within, long)) ∙ sym (ap (λ (t : Touch). hash t.0) (get_or-set_other ps (p - 1) k (x, e) d other))
]

-- a pair is touched at a clock
pub touched_pair : (ps : List Touch) (p : ℕ) (x : Flow) (clock : ℕ) (u : Touch) → 0 < p → p ≤ length ps → same_flow (pair_at ps p).0 x ≡ true → u ≡ get_or ps (p - 1) u →
    ◌≡◌ {A = Touch} (u.0, at_clock clock u.1) (x, at_clock clock (pair_at ps p).1)
touched_pair ps p x clock u some low same read =
    let whole : u ≡ pair_at ps p = read ∙ same_item ps (p - 1) u (no_flow, no_entry) (omega (arith, some, low)) in
    ap {B = Touch} (λ (t : Touch). (t.0, at_clock clock t.1)) whole ∙ ap {B = Touch} (λ (y : Flow). (y, at_clock clock (pair_at ps p).1)) (same_flow-true (pair_at ps p).0 x same)

pub touched : (ps : List Touch) (order : List ℕ) (p : ℕ) (x : Flow) (clock : ℕ) → ArePlaces (length order) order → length order ≡ length ps → EachFlowOnce (picked ps order) →
    0 < p → p ≤ length ps → same_flow (pair_at ps p).0 x ≡ true → last_touch x (picked ps order) ≡ Some (pair_at ps p).1 →
    picked (set ps (p - 1) (x, at_clock clock (pair_at ps p).1)) (p ∷ others p order) ≡ retouched clock x (picked ps order)
touched ps order p x clock places long once some low same last =
    written ps order p x (at_clock clock (pair_at ps p).1) places long once some low same ∙ sym (ap (λ o. moved clock x o (picked ps order)) last)

-- the oldest pair makes room for another
pub replaced : (ps : List Touch) (order : List ℕ) (p : ℕ) (x : Flow) (e : Entry) → ArePlaces (length order) order → length order ≡ length ps → 0 < length ps → p ≡ get_or order (length order - 1) 0 → 0 < p → p ≤ length ps →
    picked (set ps (p - 1) (x, e)) (p ∷ others p order) ≡ (x, e) ∷ take (length ps - 1) (picked ps order)
replaced ps order p x e places long any last some low =
    let within = order_within (length ps) order (subst (λ (n : ℕ). ArePlaces n order) long places).low in
    let count : suc (length order - 1) ≡ length order = omega (arith, any, long) in
    picked_first ps p (x, e) order some low within
    ∙ ap (λ (l : List Touch). (x, e) ∷ l) (picked_but_last ps p (length order - 1) order (order_once order places.apart) count last ∙ ap (λ (n : ℕ). take (n - 1) (picked ps order)) long)

pub replaced_once : (x : Flow) (e : Entry) (n : ℕ) (ts : List Touch) → last_touch x ts ≡ None → EachFlowOnce ts → EachFlowOnce ((x, e) ∷ take n ts)
replaced_once x e n ts absent once = (absent_take x n ts absent, once_take n ts once)

pub replaced_hashed : (hash : Flow → ℕ) (hashes : List ℕ) (ps : List Touch) (p : ℕ) (x : Flow) (e : Entry) → AreHashed hash hashes ps → length ps ≤ length hashes → 0 < p → p ≤ length ps →
    AreHashed hash (set hashes (p - 1) (hash x)) (set ps (p - 1) (x, e))
replaced_hashed hash hashes ps p x e h known some low k d within = elim (cases_eq k (p - 1)) [
  | inl here ↦
      let i : p - 1 < length ps = omega (arith, some, low) in
      ap (λ (j : ℕ). get_or (set hashes (p - 1) (hash x)) j 0) here ∙ get_or-set_same hashes (p - 1) (hash x) 0 (omega (arith, i, known))
      ∙ sym (ap (λ (j : ℕ). hash (get_or (set ps (p - 1) (x, e)) j d).0) here ∙ ap (λ (t : Touch). hash t.0) (get_or-set_same ps (p - 1) (x, e) d i))
  | inr other ↦
      let long : length (set ps (p - 1) (x, e)) ≡ length ps = length-set ps (p - 1) (x, e) in
      get_or-set_other hashes (p - 1) k (hash x) 0 other ∙ h k d (omega (arith, within, long)) ∙ sym (ap (λ (t : Touch). hash t.0) (get_or-set_other ps (p - 1) k (x, e) d other))
]

-- a pair has a place of its own
pub pushed : (ps : List Touch) (order : List ℕ) (x : Flow) (e : Entry) → ArePlaces (length order) order → length order ≡ length ps →
    picked (ps ++ (x, e) ∷ []) ((length order + 1) ∷ order) ≡ (x, e) ∷ picked ps order
pushed ps order x e places long = picked_new ps (length order) (x, e) order long (order_within (length order) order places.low)

pub pushed_hashed : (hash : Flow → ℕ) (hashes : List ℕ) (ps : List Touch) (x : Flow) (e : Entry) → AreHashed hash hashes ps → slice_index hashes (length ps) ≡ hash x → AreHashed hash hashes (ps ++ (x, e) ∷ [])
pushed_hashed hash hashes ps x e h next k d within = elim (cases_eq k (length ps)) [
  | inl here ↦
      let at_end : get_or (ps ++ (x, e) ∷ []) (length ps) d ≡ (x, e) = get_or-append_right ps ((x, e) ∷ []) (length ps) (length ps) d refl (omega arith) ∙ ap (λ (j : ℕ). get_or ((x, e) ∷ []) j d) (zeroth (length ps)) in
      ap (slice_index hashes) here ∙ next ∙ sym (ap (λ (j : ℕ). hash (get_or (ps ++ (x, e) ∷ []) j d).0) here ∙ ap (λ (t : Touch). hash t.0) at_end)
  | inr other ↦
      let long : length (ps ++ (x, e) ∷ []) ≡ length ps + 1 = length_push ps (x, e) in
      let low : k < length ps = omega (arith, within, long, other) in
      h k d low ∙ sym (ap (λ (t : Touch). hash t.0) (get_or_append_left ps ((x, e) ∷ []) d k low))
]
  where
    zeroth : (n : ℕ) → n - n ≡ 0
    zeroth n = omega arith

in_within : (n p : ℕ) (order : List ℕ) → AreWithin n order → IsIn p order → (0 < p) × (p ≤ n)
in_within n p [] h inside = absurd inside
in_within n p (q ∷ order) h (inl e) = subst (λ (r : ℕ). (0 < r) × (r ≤ n)) e (h.0, h.1)
in_within n p (q ∷ order) h (inr more) = in_within n p order h.2 more

-- a place whose pair is the flow's
found_place : (t : Pairs) (x : Flow) (p : ℕ) → ArePlaces (length t.order) t.order → AreTied t → 0 < p → true ≡ is_of x (slice_get t.pairs.items (p - 1)) → IsPlaceOf x t p
found_place t x p places tied some hit = elim (cases_lt (p - 1) (length t.pairs.items)) [
  | inl inside ↦
      let own : same_flow (pair_at t.pairs.items p).0 x ≡ true = sym (hit ∙ ap (is_of x) (slice_get-get_or t.pairs.items (p - 1) (no_flow, no_entry) inside)) in
      let low : p ≤ length t.pairs.items = omega (arith, some, inside) in
      let there = order_in p t.order (places.all p some (omega (arith, low, tied.ordered))) in
      record {
        some = some;
        within = low;
        own = own;
        last = last_picked t.pairs.items p x t.order tied.once there own;
      }
  | inr outside ↦ absurd (true≢false (hit ∙ ap (is_of x) (slice_get_past t.pairs.items (p - 1) outside)))
]

-- no place of the flow's hash has its pair
absent_place : (t : Pairs) (x : Flow) → ArePlaces (length t.order) t.order → AreTied t →
    ((p : ℕ) → 0 < p → p ≤ length t.buckets → slice_index t.buckets (p - 1) ≡ flow_hash t.key x → false ≡ is_of x (slice_get t.pairs.items (p - 1))) → last_touch x (touches_of t) ≡ None
absent_place t x places tied miss = none_picked t.pairs.items x t.order (λ p inside. elim (cases_Bool (same_flow (pair_at t.pairs.items p).0 x)) [
  | inl same ↦
      let bounds = in_within (length t.order) p t.order (order_within (length t.order) t.order places.low) inside in
      let low : p - 1 < length t.pairs.items = omega (arith, bounds.0, bounds.1, tied.ordered) in
      let hash = tied.hashed (p - 1) (no_flow, no_entry) low ∙ ap (flow_hash t.key) (same_flow-true (pair_at t.pairs.items p).0 x same) in
      let other : false ≡ is_of x (slice_get t.pairs.items (p - 1)) = miss p bounds.0 (omega (arith, bounds.0, low, tied.known)) hash in
      absurd (true≢false (sym (other ∙ ap (is_of x) (slice_get-get_or t.pairs.items (p - 1) (no_flow, no_entry) low) ∙ same)))
  | inr other ↦ other
])

-- what a search by the flow's hash finds
pub sought : (t : Pairs) (x : Flow) (Post : ℕ → Bool → Type 0) (o : Option ℕ) (hash : ℕ) → ArePlaces (length t.order) t.order → AreTied t → hash ≡ flow_hash t.key x →
    ((p : ℕ) (b : Bool) → Post p b → b ≡ is_of x (slice_get t.pairs.items (p - 1))) →
    IfSome o (λ p. (0 < p) × (p ≤ length t.buckets) × Post p true) →
    IfNone o ((p : ℕ) → 0 < p → p ≤ length t.buckets → slice_index t.buckets (p - 1) ≡ hash → Post p false) →
    MatchOption o (last_touch x (touches_of t) ≡ None) (λ p. IsPlaceOf x t p)
sought t x Post None hash places tied own means found absent =
    absent_place t x places tied (λ p some low same. means p false (absent p some low (same ∙ sym own)))
sought t x Post (Some p) hash places tied own means found absent = found_place t x p places tied found.0 (means p true found.2)
