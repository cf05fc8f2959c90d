-- One more slot of two tables.
use Rattle.std.proofs.Common.{◌≡◌, ◌≢◌, ℕ, ◌+◌, Bool, true, false, cond, refl, ◌∙◌, ap, List, [], ◌∷◌, length, get_or, length-append, eqb, ⊎_elim}
use Rattle.std.specs.List.{filter, range_with_len}
use Rattle.std.proofs.lemmas.Bool.Decides.{eqb_tells}
use Rattle.std.specs.Cmp.{nat_eq_equiv}
use Rattle.maglev_table.specs.Turns.{differs}
use Rattle.maglev_table.proofs.Steps.{differ_more}

eqb_false : (a b : ℕ) → a ≢ b → eqb a b ≡ false
eqb_false a b h = ⊎_elim (λ (yes : (eqb a b ≡ true) × (a ≡ b)). absurd (h yes.1)) (λ (no : (eqb a b ≡ false) × (a ≢ b)). no.0) (eqb_tells a b)

step : (old new : List ℕ) (n : ℕ) (b : Bool) → differs old new n ≡ b → length (filter (differs old new) (range_with_len 0 (n + 1))) ≡ length (filter (differs old new) (range_with_len 0 n)) + cond b 1 0
step old new n true e = ap length (differ_more old new n) ∙ rw e (length-append (filter (differs old new) (range_with_len 0 n)) (n ∷ []))
step old new n false e = ap length (differ_more old new n) ∙ rw e (length-append (filter (differs old new) (range_with_len 0 n)) [])

pub one_more : (old new : List ℕ) (n : ℕ) → get_or old n 0 ≢ get_or new n 0 → length (filter (differs old new) (range_with_len 0 (n + 1))) ≡ length (filter (differs old new) (range_with_len 0 n)) + 1
one_more old new n h = step old new n true (rw (eqb_false (get_or old n 0) (get_or new n 0) h) refl)

pub no_more : (old new : List ℕ) (n : ℕ) → get_or old n 0 ≡ get_or new n 0 → length (filter (differs old new) (range_with_len 0 (n + 1))) ≡ length (filter (differs old new) (range_with_len 0 n)) + 0
no_more old new n h = step old new n false (rw h (rw (nat_eq_equiv.refl (get_or new n 0)) refl))
