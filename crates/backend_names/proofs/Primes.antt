-- Each listed size is prime.
use Rattle.std.proofs.Common.{◌≡◌, ◌≢◌, ℕ, zero, suc, ◌+◌, ◌*◌, ◌/◌, ◌%◌, ◌<◌, ◌≤◌, ◌==◌, ◌⊎◌, inl, inr, refl, sym, subst, arith, Bool, true, false, ◌||◌, cond, ltb, ⊎_elim}
use Prim.Native.Nat.{◌∣◌}
use Rattle.std.proofs.lemmas.Nat.Gcd.{mod-eq-zero_of_dvd}
use Rattle.std.proofs.Math.Nat.{dvd-mul_right}
use Rattle.std.proofs.lemmas.Nat.{div-add-mod', mul-le}
use Rattle.std.proofs.lemmas.Bool.{cases_eq, cases_lt, false≢true}
use Rattle.std.proofs.lemmas.Bool.Decides.{nat_tests, eqb_tells}
use Rattle.backend_names.specs.Sizes.{IsPrime, is_table_size}

-- no divisor from 2 up to below n
abbrev trial : ℕ → ℕ → Bool
trial p zero = true
trial p (suc n) = cond (ltb 1 n) (cond (p % n == 0) false (trial p n)) (trial p n)

trial_here : (n rest : ℕ) (b : Bool) → cond (ltb 1 n) (cond (rest == 0) false b) b ≡ true → 1 < n → rest ≢ 0
trial_here n rest b h above = grind (arith, nat_tests)

trial_below : (n rest : ℕ) (b : Bool) → cond (ltb 1 n) (cond (rest == 0) false b) b ≡ true → b ≡ true
trial_below n rest b h = grind (arith, nat_tests)

trial_tells : (p n k : ℕ) → trial p n ≡ true → k < n → 1 < k → p % k ≢ 0
trial_tells p zero k h below above = absurd (omega arith)
trial_tells p (suc n) k h below above =
    ⊎_elim (λ (same : k ≡ n). let e : n ≡ k = sym same in let P : ℕ → Type 0 = λ m. p % m ≢ 0 in subst P e (trial_here n (p % n) (trial p n) h (omega arith)))
    (λ (other : k ≢ n). trial_tells p n k (trial_below n (p % n) (trial p n) h) (omega arith) above)
    (cases_eq k n)

-- a trial by the numbers up to a root is enough
prime_by_trial : (p b : ℕ) → 1 < p → p < b * b → trial p b ≡ true → IsPrime p
prime_by_trial p b big root h = record {
  above_one = big;
  no_divisor = λ k above below e.
      let split : p / k * k + p % k ≡ p = div-add-mod' p k in
      let whole : p / k * k ≡ p = omega arith in
      ⊎_elim (λ (low : k < b). trial_tells p b k h low above e)
      (λ (high : b ≤ k).
      let q : ℕ = p / k in
      let q_low : p / k < b =
      ⊎_elim (λ (yes : p / k < b). yes) (λ (no : b ≤ p / k). let m : b * b ≤ p / k * k = mul-le b b (p / k) k no high in absurd (omega arith)) (cases_lt (p / k) b) in
      let q_above : 1 < p / k =
      ⊎_elim (λ (yes : 1 < p / k). yes) (λ (no : p / k ≤ 1). let m : p / k * k ≤ 1 * k = mul-le (p / k) k 1 k no (omega arith) in absurd (omega arith)) (cases_lt 1 (p / k)) in
      let divides : p / k ∣ p = subst (λ (n : ℕ). p / k ∣ n) whole (dvd-mul_right (p / k) k) in
      trial_tells p b (p / k) h q_low q_above (mod-eq-zero_of_dvd (p / k) divides))
      (cases_lt k b);
}

size_cases : (size listed : ℕ) (rest : Bool) → ((size == listed) || rest) ≡ true → (size ≡ listed) ⊎ (rest ≡ true)
size_cases size listed rest h =
    ⊎_elim (λ (yes : (size == listed ≡ true) × (size ≡ listed)). inl yes.1) (λ (no : (size == listed ≡ false) × (size ≢ listed)). inr (rw no.0 at h)) (eqb_tells size listed)

listed_prime : (size p b : ℕ) → 1 < p → p < b * b → trial p b ≡ true → size ≡ p → IsPrime size
listed_prime size p b big root h e = subst (λ (n : ℕ). IsPrime n) (sym e) (prime_by_trial p b big root h)

-- each listed size is prime
pub size_is_prime : (size : ℕ) → is_table_size size ≡ true → IsPrime size
size_is_prime size h =
    ⊎_elim (listed_prime size 7 3 (omega arith) (omega arith) refl) (λ h. ⊎_elim (listed_prime size 13 4 (omega arith) (omega arith) refl)
    (λ h. ⊎_elim (listed_prime size 251 16 (omega arith) (omega arith) refl) (λ h. ⊎_elim (listed_prime size 1021 32 (omega arith) (omega arith) refl)
    (λ h. ⊎_elim (listed_prime size 8191 91 (omega arith) (omega arith) refl) (λ h. ⊎_elim (listed_prime size 65537 257 (omega arith) (omega arith) refl)
    (λ h. absurd (false≢true h)) (size_cases size 65537 _ h)) (size_cases size 8191 _ h)) (size_cases size 1021 _ h)) (size_cases size 251 _ h)) (size_cases size 13 _ h)) (size_cases size 7 _ h)
