-- Slots that are written one after the other.
use Rattle.std.proofs.Common.{◌≡◌, ◌≢◌, ◌≤◌, ◌<◌, ◌+◌, ℕ, List, map, length, get_or, set, sym, ◌∙◌, ap, arith, ⊎_elim}
use Rattle.std.proofs.lemmas.Bool.{cases_eq}
use Rattle.std.proofs.lemmas.List.{get_or-map, length-map, ext_get_or, get_or-set_same, get_or-set_other}

-- the first slots are those of the first values
abbrev pub AreWritten : {A : Type 0} → (A → ℕ) → List A → List ℕ → ℕ → Type 0
AreWritten f xs slots n = (k : ℕ) → k < n → get_or slots k 0 ≡ get_or (map f xs) k 0

pub one_more : {A : Type 0} (f : A → ℕ) (xs : List A) (slots : List ℕ) (n : ℕ) (d : A) (r : ℕ) → length slots ≡ length xs → n < length slots → r ≡ f (get_or xs n d)
    → AreWritten f xs slots n → AreWritten f xs (set slots n r) (n + 1)
one_more f xs slots n d r len low e before k h =
    ⊎_elim
    (λ (same : k ≡ n). ap (λ (i : ℕ). get_or (set slots n r) i 0) same ∙ get_or-set_same slots n r 0 low ∙ e ∙ sym (get_or-map f xs n d 0 (omega arith)) ∙ ap (λ (i : ℕ). get_or (map f xs) i 0) (sym same))
    (λ (other : k ≢ n). get_or-set_other slots n k r 0 other ∙ before k (omega arith))
    (cases_eq k n)

pub all_written : {A : Type 0} (f : A → ℕ) (xs : List A) (slots : List ℕ) (n : ℕ) → length slots ≡ length xs → length slots ≤ n → AreWritten f xs slots n → slots ≡ map f xs
all_written f xs slots n len done before =
    let many = length-map xs f in
    ext_get_or 0 slots (map f xs) (omega arith) (λ i l. before i (omega arith))
