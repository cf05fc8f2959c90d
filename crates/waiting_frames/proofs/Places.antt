-- Where the queues lie, and how they move when one of them changes.
use Rattle.std.proofs.Common.{◌≡◌, ◌≢◌, ℕ, ◌+◌, ◌*◌, ◌<◌, ◌≤◌, Bool, true, false, List, [], length, zero, suc, Some, None, refl, sym, ap, ◌∙◌, arith, replicate}
use Rattle.std.specs.Prelude.{slice_get, slice_set, slice_index_or, ◌==◌, ◌&&◌, nat_lt, if◌then◌else◌}
use Rattle.std.proofs.lemmas.Bool.{eqb-true, lt-ltb, true≢false, eq-eqb, ltb-true, ltb-false, eqb-false}
use Rattle.std.proofs.lemmas.List.{get_or-set_same, get_or-set_other, get_or_past, length-set}
use Rattle.pcap_file.specs.Format.{Record}
use Rattle.waiting_frames.specs.Queues.{queue_at, HasQueue, place_of, Moves, only_at, changed_at, first_at, emptied}

-- a queue that there is, by its place
pub at_place : (qs : List (List Record)) (n w : ℕ) → w < 16 → queue_at qs n w ≡ slice_index_or qs (n * 16 + w) []
at_place qs n w h = ap (λ (b : Bool). if b then slice_index_or qs (n * 16 + w) [] else []) (lt-ltb w 16 h)

same_place : (n w m u : ℕ) → w < 16 → u < 16 → n * 16 + w ≡ m * 16 + u → (m ≡ n) × (u ≡ w)
same_place n w m u h g e = (omega arith, omega arith)

pub and_parts : (a b : Bool) → (a && b) ≡ true → (a ≡ true) × (b ≡ true)
and_parts true true h = (refl, refl)
and_parts true false h = absurd (true≢false (sym h))
and_parts false b h = absurd (true≢false (sym h))

and_made : (a b : Bool) → a ≡ true → b ≡ true → (a && b) ≡ true
and_made a b h g = ap (λ (x : Bool). x && b) h ∙ g

abbrev pub Given : List (List Record) → ℕ → ℕ → Bool
Given qs n w = nat_lt w 16 && nat_lt (n * 16 + w) (length qs)

given : (qs : List (List Record)) (n w : ℕ) → HasQueue qs n w → Given qs n w ≡ true
given qs n w h = and_made _ _ (lt-ltb w 16 h.0) (lt-ltb (n * 16 + w) (length qs) h.1)

has : (qs : List (List Record)) (n w : ℕ) → Given qs n w ≡ true → HasQueue qs n w
has qs n w h = let p : (nat_lt w 16 ≡ true) × (nat_lt (n * 16 + w) (length qs) ≡ true) = and_parts _ _ h in (ltb-true w 16 p.0, ltb-true (n * 16 + w) (length qs) p.1)

module _ (qs : List (List Record)) (m u : ℕ) (change : List Record → List Record) where
  -- the one place was set
  set_each : HasQueue qs m u → (n w : ℕ) → HasQueue qs n w → (d : Bool) → (m == n && u == w) ≡ d → queue_at (slice_set qs (m * 16 + u) (change (slice_index_or qs (m * 16 + u) []))) n w ≡ (if d then change (queue_at qs n w) else queue_at qs n w)
  set_each here n w h true e =
      let p : ((m == n) ≡ true) × ((u == w) ≡ true) = and_parts _ _ e in
      let f : m ≡ n = eqb-true m n p.0 in
      let g : u ≡ w = eqb-true u w p.1 in
      let i : n * 16 + w ≡ m * 16 + u = omega arith in
      at_place (slice_set qs (m * 16 + u) (change (slice_index_or qs (m * 16 + u) []))) n w h.0
      ∙ ap (λ (j : ℕ). slice_index_or (slice_set qs (m * 16 + u) (change (slice_index_or qs (m * 16 + u) []))) j []) i
      ∙ get_or-set_same qs (m * 16 + u) (change (slice_index_or qs (m * 16 + u) [])) [] here.1
      ∙ ap (λ (j : ℕ). change (slice_index_or qs j [])) (sym i)
      ∙ ap change (sym (at_place qs n w h.0))
  set_each here n w h false e =
      let apart : n * 16 + w ≢ m * 16 + u = (λ i. let s : (m ≡ n) × (u ≡ w) = same_place n w m u h.0 here.0 i in true≢false (sym (and_made _ _ (eq-eqb m n s.0) (eq-eqb u w s.1)) ∙ e)) in
      at_place (slice_set qs (m * 16 + u) (change (slice_index_or qs (m * 16 + u) []))) n w h.0
      ∙ get_or-set_other qs (m * 16 + u) (n * 16 + w) (change (slice_index_or qs (m * 16 + u) [])) [] apart
      ∙ sym (at_place qs n w h.0)

  same_each : Given qs m u ≡ false → (n w : ℕ) → HasQueue qs n w → (d : Bool) → (m == n && u == w) ≡ d → queue_at qs n w ≡ (if d then change (queue_at qs n w) else queue_at qs n w)
  same_each none n w h true e =
      let p : ((m == n) ≡ true) × ((u == w) ≡ true) = and_parts _ _ e in
      let f : m ≡ n = eqb-true m n p.0 in
      let g : u ≡ w = eqb-true u w p.1 in
      let here : HasQueue qs m u = (let a : u < 16 = omega (arith, h.0) in a, let b : m * 16 + u < length qs = omega (arith, h.1) in b) in
      absurd (true≢false (sym (given qs m u here) ∙ none))
  same_each none n w h false e = refl

  changed : (b : Bool) → Given qs m u ≡ b → Moves qs (changed_at qs (if b then Some (m * 16 + u) else None) change) (only_at m u change)
  changed true e = record {
    count = length-set qs (m * 16 + u) (change (slice_index_or qs (m * 16 + u) []));
    each = λ n w h. set_each (has qs m u e) n w h (m == n && u == w) refl;
  }
  changed false e = record { count = refl; each = λ n w h. same_each e n w h (m == n && u == w) refl }

  pub moves_changed : Moves qs (changed_at qs (place_of (length qs) m u) change) (only_at m u change)
  moves_changed = changed (Given qs m u) refl

module _ (qs : List (List Record)) (m u : ℕ) where
  past_end : (b : Bool) → nat_lt u 16 ≡ b → Given qs m u ≡ false → None ≡ slice_get (if b then slice_index_or qs (m * 16 + u) [] else []) 0
  past_end true e none =
      let long : length qs ≤ m * 16 + u = ltb-false (m * 16 + u) (length qs) (ap (λ (x : Bool). x && nat_lt (m * 16 + u) (length qs)) (sym e) ∙ none) in
      ap (λ (q : List Record). slice_get q 0) (sym (get_or_past qs (m * 16 + u) [] long))
  past_end false e none = refl

  first_of_place : (b : Bool) → Given qs m u ≡ b → first_at qs (if b then Some (m * 16 + u) else None) ≡ slice_get (queue_at qs m u) 0
  first_of_place true e = ap (λ (q : List Record). slice_get q 0) (sym (at_place qs m u (has qs m u e).0))
  first_of_place false e = past_end (nat_lt u 16) refl e

  pub first_is : first_at qs (place_of (length qs) m u) ≡ slice_get (queue_at qs m u) 0
  first_is = first_of_place (Given qs m u) refl

-- many emptied
emptied_count : (first count : ℕ) (qs : List (List Record)) → length (emptied first count qs) ≡ length qs
emptied_count first zero qs = refl
emptied_count first (suc count) qs = length-set (emptied first count qs) (first + count) [] ∙ emptied_count first count qs

emptied_last : (first count place : ℕ) (qs : List (List Record)) → place < length qs → (d : Bool) → (place == first + count) ≡ d → (place < first + count → slice_index_or (emptied first count qs) place [] ≡ []) → place < first + suc count → slice_index_or (emptied first (suc count) qs) place [] ≡ []
emptied_last first count place qs long true e before lt =
    let f : place ≡ first + count = eqb-true place (first + count) e in
    let there : first + count < length (emptied first count qs) = omega (arith, emptied_count first count qs) in
    ap (λ (j : ℕ). slice_index_or (slice_set (emptied first count qs) (first + count) []) j []) f
    ∙ get_or-set_same (emptied first count qs) (first + count) [] [] there
emptied_last first count place qs long false e before lt =
    let f : place ≢ first + count = eqb-false place (first + count) e in
    get_or-set_other (emptied first count qs) (first + count) place [] [] f
    ∙ before (omega arith)

emptied_within : (first count place : ℕ) (qs : List (List Record)) → place < length qs → first ≤ place → place < first + count → slice_index_or (emptied first count qs) place [] ≡ []
emptied_within first zero place qs long le lt = absurd (omega arith)
emptied_within first (suc count) place qs long le lt = emptied_last first count place qs long (place == first + count) refl (λ less. emptied_within first count place qs long le less) lt

emptied_outside : (first count place : ℕ) (qs : List (List Record)) → ((first ≤ place) → (place < first + count) → ⊥) → slice_index_or (emptied first count qs) place [] ≡ slice_index_or qs place []
emptied_outside first zero place qs out = refl
emptied_outside first (suc count) place qs out =
    let f : place ≢ first + count = (λ e. out (omega arith) (omega arith)) in
    get_or-set_other (emptied first count qs) (first + count) place [] [] f
    ∙ emptied_outside first count place qs (λ le lt. out le (omega arith))

module _ (qs : List (List Record)) (m : ℕ) where
  empties : (n w : ℕ) → HasQueue qs n w → (d : Bool) → (m == n) ≡ d → queue_at (emptied (m * 16) 16 qs) n w ≡ (if d then [] else queue_at qs n w)
  empties n w h true e =
      let f : m ≡ n = eqb-true m n e in
      let g : w < 16 = h.0 in
      at_place (emptied (m * 16) 16 qs) n w h.0 ∙ emptied_within (m * 16) 16 (n * 16 + w) qs h.1 (omega arith) (omega arith)
  empties n w h false e =
      let f : m ≢ n = eqb-false m n e in
      let g : w < 16 = h.0 in
      at_place (emptied (m * 16) 16 qs) n w h.0 ∙ emptied_outside (m * 16) 16 (n * 16 + w) qs (λ le lt. f (omega arith)) ∙ sym (at_place qs n w h.0)

  pub moves_emptied : Moves qs (emptied (m * 16) 16 qs) (λ n w q. if m == n then [] else q)
  moves_emptied = record { count = emptied_count (m * 16) 16 qs; each = λ n w h. empties n w h (m == n) refl }

pub none_wait : (count n w : ℕ) → queue_at (replicate count []) n w ≡ []
none_wait count n w = go (nat_lt w 16)
  where
    none : (c i : ℕ) → slice_index_or (replicate {A = List Record} c []) i [] ≡ []
    none zero i = refl
    none (suc c) zero = refl
    none (suc c) (suc i) = none c i

    go : (b : Bool) → (if b then slice_index_or (replicate {A = List Record} count []) (n * 16 + w) [] else []) ≡ []
    go true = none count (n * 16 + w)
    go false = refl
