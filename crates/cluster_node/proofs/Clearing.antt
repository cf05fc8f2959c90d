-- Clearing the workers one after another.
use Rattle.std.proofs.Common.{◌≡◌, ℕ, ◌+◌, ◌%◌, ◌^◌, ◌<◌, List, [], ◌∷◌, length, map, take, zero, suc, Some, refl, sym, ap, ◌∙◌, subst, arith}
use Rattle.std.specs.Prelude.{slice_get, slice_set, get_or}
use Rattle.std.proofs.Math.Nat.{mod-add-mod}
use Rattle.cluster_node.specs.WorkerView.{WorkerView}
use Rattle.cluster_node.specs.Record.{waits, cleared}

-- the workers, with so many of the first cleared
abbrev pub cleared_first : ℕ → List WorkerView → List WorkerView
cleared_first zero us = us
cleared_first (suc k) [] = []
cleared_first (suc k) (u ∷ us) = cleared u ∷ cleared_first k us

pub first_length : (k : ℕ) (us : List WorkerView) → length (cleared_first k us) ≡ length us
first_length zero us = refl
first_length (suc k) [] = refl
first_length (suc k) (u ∷ us) = ap suc (first_length k us)

pub first_all : (us : List WorkerView) → cleared_first (length us) us ≡ map cleared us
first_all [] = refl
first_all (u ∷ us) = ap (λ (l : List WorkerView). cleared u ∷ l) (first_all us)

pub first_at : (k : ℕ) (us : List WorkerView) → slice_get (cleared_first k us) k ≡ slice_get us k
first_at zero us = refl
first_at (suc k) [] = refl
first_at (suc k) (u ∷ us) = first_at k us

pub first_more : (k : ℕ) (us : List WorkerView) (u : WorkerView) → slice_get us k ≡ Some u → slice_set (cleared_first k us) k (cleared u) ≡ cleared_first (k + 1) us
first_more k [] u h = absurd (cc)
first_more zero (v ∷ us) u h = let e : v ≡ u = cc in ap (λ (x : WorkerView). cleared x ∷ us) (sym e)
first_more (suc k) (v ∷ us) u h =
    let e : suc k + 1 ≡ suc (k + 1) = omega arith in
    ap (λ (l : List WorkerView). cleared v ∷ l) (first_more k us u h) ∙ sym (ap (λ (n : ℕ). cleared_first n (v ∷ us)) e)

pub waits_more : (k : ℕ) (us : List WorkerView) (u : WorkerView) → slice_get us k ≡ Some u → waits (take (k + 1) us) ≡ waits (take k us) + length u.queue
waits_more k [] u h = absurd (cc)
waits_more zero (v ∷ us) u h = let e : v ≡ u = cc in omega (arith, ap (λ (x : WorkerView). length x.queue) e)
waits_more (suc k) (v ∷ us) u h =
    let e : suc k + 1 ≡ suc (k + 1) = omega arith in
    ap (λ (n : ℕ). waits (take n (v ∷ us))) e ∙ (let i : waits (take (k + 1) us) ≡ waits (take k us) + length u.queue = waits_more k us u h in let g : length v.queue + waits (take (k + 1) us) ≡ (length v.queue + waits (take k us)) + length u.queue = omega arith in g)

pub get_of_or : (us : List WorkerView) (k : ℕ) (d : WorkerView) → k < length us → slice_get us k ≡ Some (get_or us k d)
get_of_or [] k d h = absurd (omega arith)
get_of_or (u ∷ us) zero d h = refl
get_of_or (u ∷ us) (suc k) d h = get_of_or us k d (omega arith)

-- one more worker is cleared
pub clear_step : (items us : List WorkerView) (k lost r : ℕ) (one after : WorkerView) → k < length us → items ≡ cleared_first k us → lost ≡ waits (take k us) % 2 ^ 64 → one ≡ get_or items k one → r ≡ length one.queue → after ≡ cleared one → (slice_set items k after ≡ cleared_first (k + 1) us) × ((lost + r) % 2 ^ 64 ≡ waits (take (k + 1) us) % 2 ^ 64)
clear_step items us k lost r one after lt e f o q a =
    let s : slice_get us k ≡ Some one =
    sym (first_at k us)
    ∙ get_of_or (cleared_first k us) k one (subst (λ (n : ℕ). k < n) (sym (first_length k us)) lt)
    ∙ ap (λ (l : List WorkerView). Some (get_or l k one)) (sym e)
    ∙ ap (λ (u : WorkerView). Some u) (sym o) in (
      ap (λ (l : List WorkerView). slice_set l k after) e ∙ ap (λ (u : WorkerView). slice_set (cleared_first k us) k u) a ∙ first_more k us one s,
      ap (λ (n : ℕ). (n + r) % 2 ^ 64) f ∙ ap (λ (n : ℕ). (waits (take k us) % 2 ^ 64 + n) % 2 ^ 64) q ∙ mod-add-mod (waits (take k us)) (2 ^ 64) (length one.queue) ∙ ap (λ (n : ℕ). n % 2 ^ 64) (sym (waits_more k us one s)),
    )
