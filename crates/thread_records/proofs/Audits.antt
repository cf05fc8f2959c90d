-- A replay that is compared with what was recorded, outcome by outcome.
use Rattle.std.proofs.Common.{◌≡◌, ℕ, ◌+◌, ◌<◌, ◌≤◌, Bool, true, List, [], ◌∷◌, ◌++◌, length, take, get_or, Some, sym, ap, ◌∙◌, refl, arith}
use Rattle.std.specs.Prelude.{◌↔◌, ◌&&◌, ◌==◌, slice_get}
use Rattle.std.proofs.lemmas.Bool.{and_parts, and_from, eq-eqb, eqb-true}
use Rattle.std.proofs.lemmas.List.{take_more, take_all, same_from_push}
use Rattle.std.proofs.lemmas.Option.{slice_get_within, get_or_from_slice_get, slice_get-get_or}
use Rattle.cluster_node.specs.declared.outcomes.Outcome.{Outcome}

-- so many outcomes are to come, and those so far are those that were recorded
abbrev pub AgreesSoFar : Bool → ℕ → List Outcome → ℕ → List Outcome → Type 0
AgreesSoFar agree many outcomes at told = (agree ≡ true) ↔ ((many ≡ length outcomes) × (told ≡ take at outcomes))

pub agrees_first : (many count : ℕ) (outcomes : List Outcome) → count ≡ length outcomes → AgreesSoFar (many == count) many outcomes 0 []
agrees_first many count outcomes is = (
  (λ t. (eqb-true many count t ∙ is, refl)),
  (λ all. eq-eqb many count (all.0 ∙ sym is)),
)

pub agrees_more : (agree same : Bool) (many : ℕ) (outcomes told : List Outcome) (at : ℕ) (o : Outcome) → at < many → AgreesSoFar agree many outcomes at told → (same ≡ true) ↔ (slice_get outcomes at ≡ Some o)
    → AgreesSoFar (agree && same) many outcomes (at + 1) (told ++ o ∷ [])
agrees_more agree same many outcomes told at o lt was is = (
  (λ both.
      let p = and_parts agree same both in
      let so = was.0 p.0 in
      let here = is.0 p.1 in
      let within : at < length outcomes = slice_get_within outcomes at o here in
      (so.0, ap (λ (l : List Outcome). l ++ o ∷ []) so.1 ∙ ap (λ (x : Outcome). take at outcomes ++ x ∷ []) (sym (get_or_from_slice_get outcomes at o o here)) ∙ sym (take_more outcomes at o within))),
  (λ all.
      let within : at < length outcomes = omega (arith, lt, all.0) in
      let parts = same_from_push told (take at outcomes) o (get_or outcomes at o) (all.1 ∙ take_more outcomes at o within) in
      and_from agree same (was.1 (all.0, parts.0)) (is.1 (slice_get-get_or outcomes at o within ∙ ap (λ (x : Outcome). Some x) (sym parts.1)))),
)

-- once all have come, they are the recorded ones exactly where all agreed
pub agrees_all : (agree : Bool) (many : ℕ) (outcomes told verdicts : List Outcome) (at : ℕ) → many ≤ at → length told ≡ at → at ≤ many → told ≡ verdicts → AgreesSoFar agree many outcomes at told → (agree ≡ true) ↔ (outcomes ≡ verdicts)
agrees_all agree many outcomes told verdicts at past n upto is was = (
  (λ t.
      let so = was.0 t in
      let few : length outcomes ≤ at = omega (arith, so.0) in
      sym (take_all at outcomes few) ∙ sym so.1 ∙ is),
  (λ e.
      let same : outcomes ≡ told = e ∙ sym is in
      let long : length outcomes ≡ length told = ap (λ (l : List Outcome). length l) same in
      let few : length outcomes ≤ at = omega (arith, long, n) in
      let whole : many ≡ length outcomes = omega (arith, long, n) in
      was.1 (whole, sym same ∙ sym (take_all at outcomes few))),
)
