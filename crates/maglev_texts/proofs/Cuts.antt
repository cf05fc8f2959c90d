-- One step over the bytes of a text that is cut into pieces.
use Rattle.std.proofs.Common.{◌≡◌, ℕ, suc, ◌+◌, ◌-◌, ◌<◌, ◌≤◌, ◌==◌, true, false, List, [], ◌∷◌, ◌++◌, length, take, drop, get_or, refl, ap, sym, ◌∙◌, arith, add-one}
use Rattle.std.proofs.lemmas.Bool.Decides.{nat_tests}
use Rattle.std.proofs.lemmas.List.{length-drop, get_or-drop}
use Rattle.std.proofs.Math.Seq.{drop-cons, take-suc}
use Rattle.maglev_texts.specs.Parsing.{pieces_after}

pub piece_ends : (c : ℕ) (text begun : List ℕ) (i : ℕ) → i < length text → get_or text i 0 ≡ c → pieces_after c begun (drop i text) ≡ begun ∷ pieces_after c [] (drop (i + 1) text)
piece_ends c text begun i h same =
    let t : (get_or text i 0 == c) ≡ true = grind (arith, nat_tests) in
    rw (drop-cons text i 0 h, t, add-one) refl

piece_goes_on : (c : ℕ) (text begun : List ℕ) (i : ℕ) → i < length text → (get_or text i 0 ≡ c → ⊥) → pieces_after c begun (drop i text) ≡ pieces_after c (begun ++ get_or text i 0 ∷ []) (drop (i + 1) text)
piece_goes_on c text begun i h other =
    let t : (get_or text i 0 == c) ≡ false = grind (arith, nat_tests) in
    rw (drop-cons text i 0 h, t, add-one) refl

grown : (text : List ℕ) (start i : ℕ) → start ≤ i → i < length text → take (i + 1 - start) (drop start text) ≡ take (i - start) (drop start text) ++ get_or text i 0 ∷ []
grown text start i low h =
    let s : i + 1 - start ≡ suc (i - start) = omega arith in
    let at : start + (i - start) ≡ i = omega arith in
    let g : get_or (drop start text) (i - start) 0 ≡ get_or text i 0 = get_or-drop start text (i - start) 0 ∙ ap (λ (j : ℕ). get_or text j 0) at in
    let inside : i - start < length (drop start text) = rw (length-drop start text) (omega arith) in
    rw (s, take-suc (drop start text) (i - start) 0 inside, g) refl

pub piece_goes : (c : ℕ) (text : List ℕ) (start i : ℕ) → start ≤ i → i < length text → (get_or text i 0 ≡ c → ⊥) → pieces_after c (take (i - start) (drop start text)) (drop i text) ≡ pieces_after c (take (i + 1 - start) (drop start text)) (drop (i + 1) text)
piece_goes c text start i low h other = piece_goes_on c text _ i h other ∙ ap (λ begun. pieces_after c begun (drop (i + 1) text)) (sym (grown text start i low h))
