-- Numbers with zeros behind them.
use Rattle.std.proofs.Common.{◌≡◌, ℕ, zero, suc, List, [], ◌∷◌, ◌++◌, get_or, refl}

pub push_zero : (xs : List ℕ) (k : ℕ) → get_or (xs ++ 0 ∷ []) k 0 ≡ get_or xs k 0
push_zero [] zero = refl
push_zero [] (suc k) = refl
push_zero (x ∷ xs) zero = refl
push_zero (x ∷ xs) (suc k) = push_zero xs k
