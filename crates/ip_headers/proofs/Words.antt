-- A sum of words of 32 bits folds to what the sum of their halves folds to.
use Rattle.std.proofs.Common.{◌≡◌, ℕ, zero, suc, ◌+◌, ◌-◌, ◌*◌, ◌%◌, ◌^◌, ◌≤◌, ◌<◌, List, [], ◌∷◌, length, take, drop, slice_index, arith, sym, ap, ◌∙◌, take_all}
use Rattle.ip_headers.specs.Sum.{word_sum, folded}

pub folded-above : (s : ℕ) → 0 < s → folded s ≡ (s - 1) % 65535 + 1
folded-above zero h = absurd (omega arith)
folded-above (suc s) h = omega arith

-- multiples of 65535 don't count, but in 0
folded-more : (k s : ℕ) → 0 < s → folded (s + 65535 * k) ≡ folded s
folded-more k s h = rw (folded-above (s + 65535 * k) (omega arith), folded-above s h) (omega arith)

folded-high : (k s : ℕ) → k ≤ s → folded (s + 65535 * k) ≡ folded s
folded-high zero s h = ap folded (omega arith)
folded-high (suc k) s h = folded-more (suc k) s (omega arith)

-- a word of 32 bits counts as its two halves
pub next_word : (s w : ℕ) (xs : List ℕ) → 4 ≤ length xs
    → w ≡ slice_index xs 0 * 16777216 + slice_index xs 1 * 65536 + slice_index xs 2 * 256 + slice_index xs 3
    → folded (s + w + word_sum (take (length xs - 4) (drop 4 xs))) ≡ folded (s + word_sum xs)
next_word s w [] long e = absurd (omega arith)
next_word s w (a ∷ []) long e = absurd (omega arith)
next_word s w (a ∷ b ∷ []) long e = absurd (omega arith)
next_word s w (a ∷ b ∷ c ∷ []) long e = absurd (omega arith)
next_word s w (a ∷ b ∷ c ∷ d ∷ rest) long e =
    let whole : take (length (a ∷ b ∷ c ∷ d ∷ rest) - 4) rest ≡ rest = take_all _ rest (omega arith) in
    let high = folded-high (256 * a + b) (s + word_sum (a ∷ b ∷ c ∷ d ∷ rest)) (omega arith) in
    ap (λ (l : List ℕ). folded (s + w + word_sum l)) whole ∙ ap folded (omega (arith, e)) ∙ high

-- what is full is taken off
pub less_full : (s r : ℕ) → 0x7fff_8000_0000_0000 < s → folded (s - 0x7fff_8000_0000_0000 + r) ≡ folded (s + r)
less_full s r h =
    let e : s - 0x7fff_8000_0000_0000 + r + 65535 * 2 ^ 47 ≡ s + r = omega arith in
    sym (folded-more (2 ^ 47) (s - 0x7fff_8000_0000_0000 + r) (omega arith)) ∙ ap folded e
