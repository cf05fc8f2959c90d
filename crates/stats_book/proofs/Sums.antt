-- Sums of two lists, place by place.
use Rattle.std.proofs.Common.{◌≡◌, ◌+◌, ◌≤◌, ◌<◌, ℕ, zero, suc, List, [], ◌∷◌, length, slice_index, slice_set, refl, ap, ◌∙◌, arith}
use Rattle.std.specs.Prelude.{sum}
use Rattle.std.specs.List.{fold}
use Rattle.std.proofs.lemmas.List.{get_or-set_other}
use Rattle.stats_book.specs.Counts.{sums}

from_on : (a : ℕ) (xs : List ℕ) → fold (λ s x. s + x) a xs ≡ a + sum xs
from_on a [] = omega arith
from_on a (x ∷ xs) =
    let here : fold (λ s x. s + x) a (x ∷ xs) ≡ (a + x) + sum xs = from_on (a + x) xs in
    let there : sum (x ∷ xs) ≡ (0 + x) + sum xs = from_on (0 + x) xs in
    omega (arith, here, there)

sum_cons : (x : ℕ) (xs : List ℕ) → sum (x ∷ xs) ≡ x + sum xs
sum_cons x xs = let there : sum (x ∷ xs) ≡ (0 + x) + sum xs = from_on (0 + x) xs in omega (arith, there)

pub sum_sums : (xs ys : List ℕ) → length xs ≡ length ys → sum (sums xs ys) ≡ sum xs + sum ys
sum_sums [] [] e = refl
sum_sums [] (y ∷ ys) e = absurd (omega (arith, e))
sum_sums (x ∷ xs) [] e = absurd (omega (arith, e))
sum_sums (x ∷ xs) (y ∷ ys) e = omega (arith, sum_sums xs ys (omega (arith, e)), sum_cons x xs, sum_cons y ys, sum_cons (x + y) (sums xs ys))

pub index_sums : (xs ys : List ℕ) (i : ℕ) → length xs ≡ length ys → slice_index (sums xs ys) i ≡ slice_index xs i + slice_index ys i
index_sums [] [] i e = refl
index_sums [] (y ∷ ys) i e = absurd (omega (arith, e))
index_sums (x ∷ xs) [] i e = absurd (omega (arith, e))
index_sums (x ∷ xs) (y ∷ ys) zero e = refl
index_sums (x ∷ xs) (y ∷ ys) (suc i) e = index_sums xs ys i (omega (arith, e))

pub length_sums : (xs ys : List ℕ) → length xs ≡ length ys → length (sums xs ys) ≡ length xs
length_sums [] [] e = refl
length_sums [] (y ∷ ys) e = absurd (omega (arith, e))
length_sums (x ∷ xs) [] e = absurd (omega (arith, e))
length_sums (x ∷ xs) (y ∷ ys) e = ap suc (length_sums xs ys (omega (arith, e)))

both : {x y : ℕ} {xs ys : List ℕ} → x ≡ y → xs ≡ ys → x ∷ xs ≡ y ∷ ys
both {x} {y} {xs} {ys} e f = ap (λ (n : ℕ). n ∷ xs) e ∙ ap (λ (ns : List ℕ). y ∷ ns) f

-- lists of one length that are equal place by place
pub same_places : (xs ys : List ℕ) → length xs ≡ length ys → ((i : ℕ) → i < length xs → slice_index xs i ≡ slice_index ys i) → xs ≡ ys
same_places [] [] e h = refl
same_places [] (y ∷ ys) e h = absurd (omega (arith, e))
same_places (x ∷ xs) [] e h = absurd (omega (arith, e))
same_places (x ∷ xs) (y ∷ ys) e h = both (h zero (omega arith)) (same_places xs ys (omega (arith, e)) (λ i lt. h (suc i) (omega (arith, lt))))

-- one place more is set to what another list has there
pub set_next : (xs ys : List ℕ) (k v : ℕ) → k < length xs → ((i : ℕ) → i < k → slice_index xs i ≡ slice_index ys i) → v ≡ slice_index ys k → (i : ℕ) → i < k + 1 → slice_index (slice_set xs k v) i ≡ slice_index ys i
set_next [] ys k v lt h e i l = absurd (omega (arith, lt))
set_next (x ∷ xs) ys zero v lt h e zero l = e
set_next (x ∷ xs) ys zero v lt h e (suc i) l = absurd (omega (arith, l))
set_next (x ∷ xs) ys (suc k) v lt h e zero l = h zero (omega arith)
set_next (x ∷ xs) [] (suc k) v lt h e (suc i) l = set_next xs [] k v (omega (arith, lt)) (λ j b. h (suc j) (omega (arith, b))) e i (omega (arith, l))
set_next (x ∷ xs) (y ∷ ys) (suc k) v lt h e (suc i) l = set_next xs ys k v (omega (arith, lt)) (λ j b. h (suc j) (omega (arith, b))) e i (omega (arith, l))

-- the places behind it are as they were
pub set_rest : (xs : List ℕ) (k v i : ℕ) → k + 1 ≤ i → slice_index (slice_set xs k v) i ≡ slice_index xs i
set_rest xs k v i l = get_or-set_other xs k i v 0 (λ e. omega (arith, e, l))
