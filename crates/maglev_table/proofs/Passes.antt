-- The turns of a round, one after another.
use Rattle.std.proofs.Common.{◌≡◌, ℕ, zero, suc, ◌+◌, ◌-◌, ◌%◌, ◌<◌, ◌≤◌, refl, sym, ◌∙◌, ap, subst, arith, true, false, List, [], ◌∷◌, ◌++◌, length, drop, get_or, add-one, ⊎_elim}
use Rattle.std.specs.List.{All, filter, flat_map, range_with_len}
use Rattle.std.proofs.lemmas.Bool.{cases_lt}
use Rattle.std.proofs.lemmas.List.{length-drop}
use Rattle.maglev_table.specs.Turns.{turn_of}
use Rattle.maglev_table.specs.Weights.{AreWeights, has_turn, pass_of, round_of, turns_from, IsTurn, or_next_round}
use Rattle.maglev_table.proofs.Walks.{le_true, le_false}
use Rattle.maglev_table.proofs.Fill.{next_place, next_round}
use Rattle.maglev_table.proofs.Shares.{kept, keep_all}

-- the turns of later passes
abbrev later : ℕ → List ℕ → ℕ → List ℕ
later n weights pass = flat_map (pass_of n weights) (range_with_len (pass + 1) (16 - pass))

-- a list that has a turn is the first of those from it on
pub turn_first : (n : ℕ) (weights : List ℕ) (pass who : ℕ) → who < n → has_turn weights pass who ≡ true → turns_from n weights pass who ≡ who ∷ turns_from n weights pass (who + 1)
unfolding turns_from
turn_first n weights pass who low has =
    let e : n - who ≡ suc (n - (who + 1)) = omega arith in
    ap (λ (xs : List ℕ). xs ++ later n weights pass)
    (ap (λ (k : ℕ). filter (has_turn weights pass) (range_with_len who k)) e ∙ kept (has_turn weights pass) who (range_with_len (who + 1) (n - (who + 1))) true has)

not_first : (n : ℕ) (weights : List ℕ) (pass who : ℕ) → who < n → has_turn weights pass who ≡ false → turns_from n weights pass who ≡ turns_from n weights pass (who + 1)
unfolding turns_from
not_first n weights pass who low has =
    let e : n - who ≡ suc (n - (who + 1)) = omega arith in
    ap (λ (xs : List ℕ). xs ++ later n weights pass)
    (ap (λ (k : ℕ). filter (has_turn weights pass) (range_with_len who k)) e ∙ kept (has_turn weights pass) who (range_with_len (who + 1) (n - (who + 1))) false has)

skip : (n : ℕ) (weights : List ℕ) (pass a d : ℕ) → a + d ≤ n → ((k : ℕ) → a ≤ k → k < a + d → has_turn weights pass k ≡ false) → turns_from n weights pass a ≡ turns_from n weights pass (a + d)
skip n weights pass a zero within none = ap (turns_from n weights pass) (omega arith)
skip n weights pass a (suc d) within none =
    not_first n weights pass a (omega arith) (none a (omega arith) (omega arith))
    ∙ skip n weights pass (a + 1) d (omega arith) (λ k low high. none k (omega arith) (omega arith))
    ∙ ap (turns_from n weights pass) (omega arith)

-- lists that have no turn in a pass are passed over
pub skipped : (n : ℕ) (weights : List ℕ) (pass a b : ℕ) → a ≤ b → b ≤ n → ((k : ℕ) → a ≤ k → k < b → has_turn weights pass k ≡ false) → turns_from n weights pass a ≡ turns_from n weights pass b
skipped n weights pass a b low high none =
    let e : a + (b - a) ≡ b = omega arith in
    skip n weights pass a (b - a) (omega arith) (λ k l h. none k l (omega arith)) ∙ ap (turns_from n weights pass) e

at_end : (n : ℕ) (weights : List ℕ) (pass : ℕ) → turns_from n weights pass n ≡ later n weights pass
unfolding turns_from
at_end n weights pass =
    let e : n - n ≡ 0 = omega arith in
    ap (λ (k : ℕ). filter (has_turn weights pass) (range_with_len n k) ++ later n weights pass) e

at_start : (n : ℕ) (weights : List ℕ) (pass : ℕ) → turns_from n weights pass 0 ≡ pass_of n weights pass ++ later n weights pass
unfolding turns_from
at_start n weights pass =
    let e : n - 0 ≡ n = omega arith in
    ap (λ (k : ℕ). filter (has_turn weights pass) (range_with_len 0 k) ++ later n weights pass) e

next_pass : (n : ℕ) (weights : List ℕ) (pass : ℕ) → pass < 16 → turns_from n weights pass n ≡ turns_from n weights (pass + 1) 0
next_pass n weights pass low =
    let e : 16 - pass ≡ suc (16 - (pass + 1)) = omega arith in
    at_end n weights pass ∙ ap (λ (k : ℕ). flat_map (pass_of n weights) (range_with_len (pass + 1) k)) e ∙ sym (at_start n weights (pass + 1))

-- a round is its turns from the first list in the first pass on
pub round_is : (n : ℕ) (weights : List ℕ) → round_of n weights ≡ turns_from n weights 1 0
unfolding round_of
round_is n weights = sym (at_start n weights 1)

weight_below : (h : ℕ) (weights : List ℕ) (k : ℕ) → All (λ w. (1 ≤ w) × (w ≤ h)) weights → get_or weights k 0 ≤ h
weight_below h [] k all = omega arith
weight_below h (w ∷ ws) zero all = (all 0 0 (omega arith)).1
weight_below h (w ∷ ws) (suc k) all = weight_below h ws k (λ j d l. all (suc j) d (omega arith))

no_turns : (f : ℕ → List ℕ) (a n : ℕ) → ((p : ℕ) → a ≤ p → f p ≡ []) → flat_map f (range_with_len a n) ≡ []
no_turns f a zero none = refl
no_turns f a (suc n) none = ap (λ (xs : List ℕ). xs ++ flat_map f (range_with_len (a + 1) n)) (none a (omega arith)) ∙ no_turns f (a + 1) n (λ p l. none p (omega arith))

-- nobody has a turn past the heaviest one's last pass
pub past_heaviest : (n : ℕ) (weights : List ℕ) (h pass who : ℕ) → All (λ w. (1 ≤ w) × (w ≤ h)) weights → h < pass → turns_from n weights pass who ≡ []
unfolding turns_from
past_heaviest n weights h pass who all past =
    let none : (p : ℕ) → pass ≤ p → (k : ℕ) → has_turn weights p k ≡ false = λ p l k. let w = weight_below h weights k all in le_false p (get_or weights k 0) (omega arith) in
    let here : filter (has_turn weights pass) (range_with_len who (n - who)) ≡ [] = keep_all (has_turn weights pass) false who (n - who) (λ k l g. none pass (omega arith) k) in
    ap (λ (xs : List ℕ). xs ++ later n weights pass) here
    ∙ no_turns (pass_of n weights) (pass + 1) (16 - pass) (λ p l. keep_all (has_turn weights p) false 0 n (λ k i g. none p (omega arith) k))

-- where nobody is left in a pass, the next one begins
pub pass_after : (n : ℕ) (weights : List ℕ) (h pass : ℕ) → All (λ w. (1 ≤ w) × (w ≤ h)) weights → h ≤ 16 → pass ≤ h → turns_from n weights pass n ≡ turns_from n weights (pass + 1) 0
pass_after n weights h pass all limit low =
    ⊎_elim (λ (more : pass < 16). next_pass n weights pass more)
    (λ (last : 16 ≤ pass).
    let same : pass ≡ 16 = omega arith in
    subst (λ (p : ℕ). turns_from n weights p n ≡ turns_from n weights (p + 1) 0) (sym same) (at_end n weights 16 ∙ sym (past_heaviest n weights h 17 0 all (omega arith))))
    (cases_lt pass 16)

-- the turns that come next are some
pub next_round_not : (n : ℕ) (weights : List ℕ) (pass who : ℕ) → IsTurn n weights pass who → turns_from n weights pass who ≡ or_next_round n weights (turns_from n weights pass who)
next_round_not n weights pass who is =
    let e = turn_first n weights pass who is.named is.has in
    e ∙ ap (or_next_round n weights) (sym e)

drop_first : (k : ℕ) (xs ys : List ℕ) (y : ℕ) → drop k xs ≡ y ∷ ys → (k < length xs) × (get_or xs k 0 ≡ y) × (drop (suc k) xs ≡ ys)
drop_first zero [] ys y e = absurd cc
drop_first (suc k) [] ys y e = absurd cc
drop_first zero (x ∷ xs) ys y e = (omega arith, cc, cc)
drop_first (suc k) (x ∷ xs) ys y e = let r = drop_first k xs ys y e in (omega (arith, r.0), r.1, r.2)

-- the first turn
pub first_turn : (n : ℕ) (weights : List ℕ) → 0 < n → length weights ≡ n → AreWeights weights → IsTurn n weights 1 0
first_turn n weights some long within = record {
  first = omega arith;
  last = omega arith;
  named = some;
  has = le_true 1 (get_or weights 0 0) (within 0 0 (omega arith)).0;
}

pub record NextTurn (n : ℕ) (weights : List ℕ) (t who pass₂ who₂ : ℕ) : Type 0 where
  pub turn : who ≡ turn_of (round_of n weights) t
  pub next : turns_from n weights pass₂ who₂ ≡ drop ((t + 1) % length (round_of n weights)) (round_of n weights)

next_drop : (n : ℕ) (weights : List ℕ) (t k : ℕ) (ls : List ℕ) → k < length (round_of n weights) → k ≡ t % length (round_of n weights) → drop (suc k) (round_of n weights) ≡ ls
    → or_next_round n weights ls ≡ drop ((t + 1) % length (round_of n weights)) (round_of n weights)
next_drop n weights t k [] low is e =
    let len : length (drop (suc k) (round_of n weights)) ≡ length (round_of n weights) - suc k = length-drop (suc k) (round_of n weights) in
    let none : length (drop (suc k) (round_of n weights)) ≡ 0 = ap length e in
    ap (λ (j : ℕ). drop j (round_of n weights)) (next_round (length (round_of n weights)) t k low is (omega arith))
next_drop n weights t k (x ∷ xs) low is e =
    let more = (drop_first (suc k) (round_of n weights) xs x e).0 in
    sym e ∙ ap (λ (j : ℕ). drop j (round_of n weights)) (sym (add-one k) ∙ next_place (length (round_of n weights)) t k low is (omega (arith, more)))

-- one turn after another
pub turn_taken : (n : ℕ) (weights : List ℕ) (t pass who pass₂ who₂ : ℕ) → IsTurn n weights pass who → turns_from n weights pass who ≡ drop (t % length (round_of n weights)) (round_of n weights)
    → turns_from n weights pass₂ who₂ ≡ or_next_round n weights (turns_from n weights pass (who + 1)) → NextTurn n weights t who pass₂ who₂
turn_taken n weights t pass who pass₂ who₂ is here next =
    let d : drop (t % length (round_of n weights)) (round_of n weights) ≡ who ∷ turns_from n weights pass (who + 1) = sym here ∙ turn_first n weights pass who is.named is.has in
    let f = drop_first (t % length (round_of n weights)) (round_of n weights) (turns_from n weights pass (who + 1)) who d in
    record {
      turn = sym f.1;
      next = next ∙ next_drop n weights t (t % length (round_of n weights)) (turns_from n weights pass (who + 1)) f.0 refl f.2;
    }
