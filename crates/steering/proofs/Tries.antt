-- Workers that were tried in vain.
use Rattle.std.proofs.Common.{◌≡◌, ℕ, ◌+◌, ◌-◌, ◌<◌, ◌%◌, Bool, true, false, List, ◌∷◌, zero, suc, refl, sym, ap, ◌∙◌, arith}
use Rattle.std.specs.Prelude.{if◌then◌else◌, ◌==◌, ◌&&◌, not}
use Rattle.std.proofs.lemmas.Bool.{true≢false, eq-eqb, ne_eqb}
use Rattle.steering.specs.declared.Placed.TheVariants.{Worker}
use Rattle.steering.specs.Steering.{Steering, refuses, ring_from, but, first_taker, is_free, rest_of}

-- a worker that isn't free is passed over
passed : (marks : List Bool) (home w : ℕ) (ws : List ℕ) → is_free marks home w ≡ false → first_taker marks (but home (w ∷ ws)) ≡ first_taker marks (but home ws)
passed marks home w ws h = go (w == home) h
  where
    refused : (d : Bool) → not d ≡ false → (if d then first_taker marks (but home ws) else Worker w) ≡ first_taker marks (but home ws)
    refused true e = refl
    refused false e = absurd (true≢false e)

    go : (b : Bool) → not b && not (refuses marks w) ≡ false → first_taker marks (if b then but home ws else w ∷ but home ws) ≡ first_taker marks (but home ws)
    go true e = refl
    go false e = refused (refuses marks w) e

-- one more worker that isn't free
pub skip : (marks : List Bool) (workers home first tried : ℕ) → tried < workers → is_free marks home ((first + tried) % workers) ≡ false → first_taker marks (but home (ring_from workers (first + tried) (workers - tried))) ≡ first_taker marks (but home (ring_from workers (first + (tried + 1)) (workers - (tried + 1))))
skip marks workers home first tried lt h =
    let e : workers - tried ≡ suc (workers - (tried + 1)) = omega arith in
    let a : first + tried + 1 ≡ first + (tried + 1) = omega arith in
    ap (λ (k : ℕ). first_taker marks (but home (ring_from workers (first + tried) k))) e
    ∙ passed marks home ((first + tried) % workers) (ring_from workers (first + tried + 1) (workers - (tried + 1))) h
    ∙ ap (λ (c : ℕ). first_taker marks (but home (ring_from workers c (workers - (tried + 1))))) a

-- one that is free takes the packet
pub takes : (marks : List Bool) (workers home first tried : ℕ) → tried < workers → is_free marks home ((first + tried) % workers) ≡ true → Worker ((first + tried) % workers) ≡ first_taker marks (but home (ring_from workers (first + tried) (workers - tried)))
takes marks workers home first tried lt h =
    let e : workers - tried ≡ suc (workers - (tried + 1)) = omega arith in
    go ((first + tried) % workers == home) h ∙ sym (ap (λ (k : ℕ). first_taker marks (but home (ring_from workers (first + tried) k))) e)
  where
    rest : List ℕ
    rest = but home (ring_from workers (first + tried + 1) (workers - (tried + 1)))

    took : (d : Bool) → not d ≡ true → Worker ((first + tried) % workers) ≡ (if d then first_taker marks (but home (ring_from workers (first + tried + 1) (workers - (tried + 1)))) else Worker ((first + tried) % workers))
    took true e = absurd (true≢false (sym e))
    took false e = refl

    go : (b : Bool) → not b && not (refuses marks ((first + tried) % workers)) ≡ true → Worker ((first + tried) % workers) ≡ first_taker marks (if b then but home (ring_from workers (first + tried + 1) (workers - (tried + 1))) else (first + tried) % workers ∷ but home (ring_from workers (first + tried + 1) (workers - (tried + 1))))
    go true e = absurd (true≢false (sym e))
    go false e = took (refuses marks ((first + tried) % workers)) e

ring_next : (workers n k : ℕ) → 0 < k → ring_from workers n k ≡ n % workers ∷ ring_from workers (n + 1) (k - 1)
ring_next workers n zero h = absurd (omega arith)
ring_next workers n (suc k) h = let e : suc k - 1 ≡ k = omega arith in ap (λ (j : ℕ). n % workers ∷ ring_from workers (n + 1) j) (sym e)

-- the home is passed over
pub but_home : (workers home n k : ℕ) (ws : List ℕ) → 0 < k → n % workers ≡ home → but home (ring_from workers n k) ≡ ws → but home (ring_from workers (n + 1) (k - 1)) ≡ ws
but_home workers home n k ws h e l =
    ap (λ (b : Bool). if b then but home (ring_from workers (n + 1) (k - 1)) else n % workers ∷ but home (ring_from workers (n + 1) (k - 1))) (sym (eq-eqb (n % workers) home e))
    ∙ ap (but home) (sym (ring_next workers n k h)) ∙ l

-- another one is the next
pub but_other : (workers home n k : ℕ) (ws : List ℕ) → 0 < k → (n % workers ≡ home → ⊥) → but home (ring_from workers n k) ≡ ws → n % workers ∷ but home (ring_from workers (n + 1) (k - 1)) ≡ ws
but_other workers home n k ws h ne l =
    ap (λ (b : Bool). if b then but home (ring_from workers (n + 1) (k - 1)) else n % workers ∷ but home (ring_from workers (n + 1) (k - 1))) (sym (ne_eqb (n % workers) home ne))
    ∙ ap (but home) (sym (ring_next workers n k h)) ∙ l

-- a steerer whose packet tried one more worker
pub tried : (workers cursor n : ℕ) (at_home : Bool) (ls : List ℕ) (old : Steering) → workers ≡ old.workers → cursor ≡ old.cursor → at_home ≡ old.at_home → n ∷ ls ≡ old.left → ◌≡◌ {A = Steering} (record { workers = workers; cursor = cursor; at_home = at_home; left = ls }) (record { workers = old.workers; cursor = old.cursor; at_home = old.at_home; left = rest_of old.left })
tried workers cursor n at_home ls old a b d e = let r : ls ≡ rest_of old.left = ap rest_of e in cc
