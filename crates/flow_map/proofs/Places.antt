-- Pairs at places: what a search finds, and what becomes of the hashes.
use Rattle.std.proofs.Common.{◌≡◌, ℕ, ◌+◌, ◌-◌, ◌<◌, ◌≤◌, ◌++◌, Bool, true, false, List, [], ◌∷◌, length, get_or, set, suc, Some, None, refl, sym, ap, ◌∙◌, arith, inl, inr}
use Rattle.std.specs.Prelude.{IfNone, IfSome, MatchOption, Option, slice_get, slice_index}
use Rattle.std.proofs.lemmas.Bool.{cases_Bool, cases_eq, true≢false}
use Rattle.std.proofs.lemmas.List.{get_or-set_other, get_or-set_same, get_or_append_left, get_or-append_right, length-set, length_push}
use Rattle.std.proofs.lemmas.Option.{slice_get_within, get_or_from_slice_get}
use Rattle.five_tuple.specs.declared.Flow.{Flow}
use Rattle.connection_table.specs.declared.key.TableKey.{TableKey}
use Rattle.connection_table.specs.Tied.{flow_hash}
use Rattle.connection_table.specs.Touches.{same_flow}
use Rattle.connection_table.proofs.Standing.{same_flow-true}
use Rattle.flow_map.specs.Maps.{value_of, StandsAt, StandsWith}
use Rattle.flow_map.specs.PrivateMaps.{is_of, AreHashed, AreTied, EachOnce}
use Rattle.flow_map.proofs.Maps.{none_there, value_there}

module _ {V : Type 0} where
  pub its_pair : (x : Flow) (o : Option (Flow × V)) → is_of x o ≡ true → (v : V) × (o ≡ Some (x, v))
  its_pair x None h = absurd (true≢false (sym h))
  its_pair x (Some p) h = (p.1, ap (λ (y : Flow). Some (y, p.1)) (same_flow-true p.0 x h))

  pub stands : (x : Flow) (ps : List (Flow × V)) (p : ℕ) (v : V) → EachOnce ps → 0 < p → slice_get ps (p - 1) ≡ Some (x, v) → StandsWith x ps p v
  stands x ps p v once some there = record { some = some; there = there; known = value_there x v ps (p - 1) once there }

  pub found_place : (key : TableKey) (hashes : List ℕ) (ps : List (Flow × V)) (x : Flow) (p : ℕ) → AreTied key hashes ps → 0 < p → true ≡ is_of x (slice_get ps (p - 1)) → StandsAt x ps p
  found_place key hashes ps x p tied some hit =
      let own = its_pair x (slice_get ps (p - 1)) (sym hit) in
      (own.0, stands x ps p own.0 tied.once some own.1)

  absent_place : (key : TableKey) (hashes : List ℕ) (ps : List (Flow × V)) (x : Flow) → AreTied key hashes ps →
      ((p : ℕ) → 0 < p → p ≤ length hashes → slice_index hashes (p - 1) ≡ flow_hash key x → false ≡ is_of x (slice_get ps (p - 1))) → value_of x ps ≡ None
  absent_place key hashes ps x tied miss = none_there x ps (λ i p at. elim (cases_Bool (same_flow p.0 x)) [
    | inl same ↦
        let low : i < length ps = slice_get_within ps i p at in
        let hash : slice_index hashes i ≡ flow_hash key x =
        tied.hashed i p low ∙ ap (λ (q : Flow × V). flow_hash key q.0) (get_or_from_slice_get ps i p p at) ∙ ap (flow_hash key) (same_flow-true p.0 x same) in
        let before : suc i - 1 ≡ i = omega arith in
        let other : false ≡ is_of x (slice_get ps i) = miss (suc i) (omega arith) (omega (arith, low, tied.long)) (ap (slice_index hashes) before ∙ hash) ∙ ap (λ (j : ℕ). is_of x (slice_get ps j)) before in
        absurd (true≢false (sym (other ∙ ap (is_of x) at ∙ same)))
    | inr other ↦ other
  ])

  pub sought : (key : TableKey) (hashes : List ℕ) (ps : List (Flow × V)) (x : Flow) (Post : ℕ → Bool → Type 0) (o : Option ℕ) (hash : ℕ) → AreTied key hashes ps → hash ≡ flow_hash key x →
      ((p : ℕ) (b : Bool) → Post p b → b ≡ is_of x (slice_get ps (p - 1))) →
      IfSome o (λ p. (0 < p) × (p ≤ length hashes) × Post p true) →
      IfNone o ((p : ℕ) → 0 < p → p ≤ length hashes → slice_index hashes (p - 1) ≡ hash → Post p false) →
      MatchOption o (value_of x ps ≡ None) (λ p. StandsAt x ps p)
  sought key hashes ps x Post None hash tied own means found absent = absent_place key hashes ps x tied (λ p some low same. means p false (absent p some low (same ∙ sym own)))
  sought key hashes ps x Post (Some p) hash tied own means found absent = found_place key hashes ps x p tied found.0 (means p true found.2)

  pub written_hashed : (hash : Flow → ℕ) (hashes : List ℕ) (ps : List (Flow × V)) (i : ℕ) (x : Flow) (v w : V) → AreHashed hash hashes ps → slice_get ps i ≡ Some (x, w) → AreHashed hash hashes (set ps i (x, v))
  written_hashed hash hashes ps i x v w h at k d within = elim (cases_eq k i) [
    | inl here ↦
        let low : i < length ps = slice_get_within ps i (x, w) at in
        ap (slice_index hashes) here ∙ h i (x, w) low ∙ ap (λ (q : Flow × V). hash q.0) (get_or_from_slice_get ps i (x, w) (x, w) at)
        ∙ sym (ap (λ (j : ℕ). hash (get_or (set ps i (x, v)) j d).0) here ∙ ap (λ (q : Flow × V). hash q.0) (get_or-set_same ps i (x, v) d low))
    | inr other ↦
        let long : length (set ps i (x, v)) ≡ length ps = length-set ps i (x, v) in
        h k d (omega (arith, within, long)) ∙ sym (ap (λ (q : Flow × V). hash q.0) (get_or-set_other ps i k (x, v) d other))
  ]

  pub pushed_hashed : (hash : Flow → ℕ) (hashes : List ℕ) (ps : List (Flow × V)) (n : ℕ) (x : Flow) (v : V) → AreHashed hash hashes ps → length hashes ≡ length ps → n ≡ hash x →
      AreHashed hash (hashes ++ n ∷ []) (ps ++ (x, v) ∷ [])
  pushed_hashed hash hashes ps n x v h many is k d within = elim (cases_eq k (length ps)) [
    | inl here ↦
        let at_end : get_or (ps ++ (x, v) ∷ []) (length ps) d ≡ (x, v) = get_or-append_right ps ((x, v) ∷ []) (length ps) (length ps) d refl (omega arith) ∙ ap (λ (j : ℕ). get_or ((x, v) ∷ []) j d) (zeroth (length ps)) in
        let hash_end : get_or (hashes ++ n ∷ []) (length hashes) 0 ≡ n = get_or-append_right hashes (n ∷ []) (length hashes) (length hashes) 0 refl (omega arith) ∙ ap (λ (j : ℕ). get_or (n ∷ []) j 0) (zeroth (length hashes)) in
        ap (slice_index (hashes ++ n ∷ [])) (here ∙ sym many) ∙ hash_end ∙ is ∙ sym (ap (λ (j : ℕ). hash (get_or (ps ++ (x, v) ∷ []) j d).0) here ∙ ap (λ (q : Flow × V). hash q.0) at_end)
    | inr other ↦
        let long : length (ps ++ (x, v) ∷ []) ≡ length ps + 1 = length_push ps (x, v) in
        let low : k < length ps = omega (arith, within, long, other) in
        get_or_append_left hashes (n ∷ []) 0 k (omega (arith, low, many)) ∙ h k d low ∙ sym (ap (λ (q : Flow × V). hash q.0) (get_or_append_left ps ((x, v) ∷ []) d k low))
  ]
    where
      zeroth : (n : ℕ) → n - n ≡ 0
      zeroth n = omega arith
