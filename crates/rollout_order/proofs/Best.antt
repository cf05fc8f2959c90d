-- The best step of those that were looked at.
use Rattle.std.proofs.Common.{◌≡◌, ◌⊎◌, ◌≤◌, ◌<◌, ◌+◌, ℕ, Bool, true, false, List, length, Option, Some, None, arith, sym, ap, ◌∙◌, inl, inr, nat_le, subst}
use Rattle.std.proofs.lemmas.Bool.{cases_Bool, cases_lt, true≢false}
use Rattle.std.proofs.lemmas.Bool.Decides.{nat_tests}
use Rattle.rollout_order.specs.declared.greedy.Step.{Step}
use Rattle.rollout_order.specs.declared.rollout.Rollout.{Rollout}
use Rattle.rollout_order.specs.Steps.{step_moved}
use Rattle.rollout_order.specs.Orders.{is_open, IsBest}
use Rattle.rollout_order.specs.PrivateBetter.{better_of}

-- a step is the best of those below a place
pub record IsLeastBelow (r : Rollout) (marks : List Bool) (end : ℕ) (s : Step) : Type 0 where
  pub low : s.place < end
  pub left : is_open marks s.place ≡ true
  pub counted : s.moved ≡ step_moved r marks s.place
  pub fewest : (other : ℕ) → other < end → is_open marks other ≡ true → s.moved ≤ step_moved r marks other
  pub first : (other : ℕ) → other < s.place → is_open marks other ≡ true → s.moved < step_moved r marks other

-- and where there is none, none is left
abbrev pub IsBestBelow : Rollout → List Bool → ℕ → Option Step → Type 0
IsBestBelow r marks end None = (other : ℕ) → other < end → is_open marks other ≡ false
IsBestBelow r marks end (Some s) = IsLeastBelow r marks end s

-- before the first place
pub none_below : (r : Rollout) (marks : List Bool) → IsBestBelow r marks 0 None
none_below r marks = λ other low. absurd (omega (arith, low))

below_next : (other place : ℕ) → other < place + 1 → (other < place) ⊎ (other ≡ place)
below_next other place low = elim (cases_lt other place) [
  | inl within ↦ inl within
  | inr behind ↦ inr (omega (arith, low, behind))
]

open_or_done : (b : Bool) → b ≡ true → b ≡ false → ⊥
open_or_done b is isnt = true≢false (sym is ∙ isnt)

-- one more place whose server is done
pub done_next : (r : Rollout) (marks : List Bool) (place : ℕ) (best : Option Step) → is_open marks place ≡ false → IsBestBelow r marks place best → IsBestBelow r marks (place + 1) best
done_next r marks place None gone held = λ other low. elim (below_next other place low) [
  | inl within ↦ held other within
  | inr same ↦ ap (is_open marks) same ∙ gone
]
done_next r marks place (Some s) gone held = record {
  low = omega (arith, held.low);
  left = held.left;
  counted = held.counted;
  fewest = λ other low free. elim (below_next other place low) [
    | inl within ↦ held.fewest other within free
    | inr same ↦ absurd (open_or_done (is_open marks other) free (ap (is_open marks) same ∙ gone))
  ];
  first = held.first;
}

kept_best : (r : Rollout) (marks : List Bool) (place moved : ℕ) (s : Step) → moved ≡ step_moved r marks place → s.moved ≤ moved → IsLeastBelow r marks place s → IsLeastBelow r marks (place + 1) s
kept_best r marks place moved s count least held = record {
  low = omega (arith, held.low);
  left = held.left;
  counted = held.counted;
  fewest = λ other low free. elim (below_next other place low) [
    | inl within ↦ held.fewest other within free
    | inr same ↦ subst (λ (n : ℕ). s.moved ≤ step_moved r marks n) (sym same) (subst (λ (n : ℕ). s.moved ≤ n) count least)
  ];
  first = held.first;
}

new_best : (r : Rollout) (marks : List Bool) (place moved : ℕ) (s : Step) → is_open marks place ≡ true → moved ≡ step_moved r marks place → moved < s.moved → IsLeastBelow r marks place s →
    IsLeastBelow r marks (place + 1) (record { place = place; moved = moved })
new_best r marks place moved s free count fewer held = record {
  low = omega arith;
  left = free;
  counted = count;
  fewest = λ other low is. elim (below_next other place low) [
    | inl within ↦ omega (arith, fewer, held.fewest other within is)
    | inr same ↦ subst (λ (n : ℕ). moved ≤ step_moved r marks n) (sym same) (omega (arith, count))
  ];
  first = λ other low is. omega (arith, fewer, held.fewest other low is);
}

le_cases : (a b : ℕ) → (nat_le a b ≡ true) ⊎ (nat_le a b ≡ false)
le_cases a b = cases_Bool (nat_le a b)

le_yes : (a b : ℕ) → nat_le a b ≡ true → a ≤ b
le_yes a b h = grind (arith, nat_tests)

le_no : (a b : ℕ) → nat_le a b ≡ false → b < a
le_no a b h = grind (arith, nat_tests)

-- and one whose server is left
pub open_next : (r : Rollout) (marks : List Bool) (place moved : ℕ) (best : Option Step) → is_open marks place ≡ true → moved ≡ step_moved r marks place → IsBestBelow r marks place best →
    IsLeastBelow r marks (place + 1) (better_of best place moved)
open_next r marks place moved None free count held = record {
  low = omega arith;
  left = free;
  counted = count;
  fewest = λ other low is. elim (below_next other place low) [
    | inl within ↦ absurd (open_or_done (is_open marks other) is (held other within))
    | inr same ↦ subst (λ (n : ℕ). moved ≤ step_moved r marks n) (sym same) (omega (arith, count))
  ];
  first = λ other low is. absurd (open_or_done (is_open marks other) is (held other low));
}
open_next r marks place moved (Some s) free count held = elim (le_cases s.moved moved) [
  | inl keep ↦ rw keep (kept_best r marks place moved s count (le_yes s.moved moved keep) held)
  | inr drop ↦ rw drop (new_best r marks place moved s free count (le_no s.moved moved drop) held)
]

-- the best of all
pub best_of_all : (r : Rollout) (marks : List Bool) (s : Step) → IsLeastBelow r marks (length marks) s → IsBest r marks s.place × (s.moved ≡ step_moved r marks s.place)
best_of_all r marks s held = (
  record {
    within = held.low;
    left = held.left;
    fewest = λ other low is. omega (arith, held.counted, held.fewest other low is);
    first = λ other low is. omega (arith, held.counted, held.first other low is);
  },
  held.counted,
)
