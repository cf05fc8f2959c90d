-- A row more in a walk over them.
use Rattle.std.proofs.Common.{◌≡◌, ◌<◌, ℕ, ◌+◌, suc, List, [], ◌∷◌, ◌++◌, length, drop, take, map, get_or, sym, ap, ◌∙◌, append_assoc, arith}
use Rattle.std.specs.List.{flat_map}
use Rattle.std.proofs.Math.Seq.{drop-cons}
use Rattle.std.proofs.lemmas.List.{take_more, map-append}

rest_of : {X : Type 0} (xs : List X) (i : ℕ) (x : X) → i < length xs → x ≡ get_or xs i x → drop i xs ≡ x ∷ drop (i + 1) xs
rest_of xs i x low is = drop-cons xs i x low ∙ ap (λ y. y ∷ drop (suc i) xs) (sym is) ∙ ap (λ (n : ℕ). x ∷ drop n xs) (let e : suc i ≡ i + 1 = omega arith in e)

pub line_more : {X : Type 0} (f : X → List ℕ) (xs : List X) (i : ℕ) (x : X) (old new whole : List ℕ) → i < length xs → x ≡ get_or xs i x → new ≡ old ++ f x
    → old ++ flat_map f (drop i xs) ≡ whole → new ++ flat_map f (drop (i + 1) xs) ≡ whole
line_more f xs i x old new whole low is grown e =
    ap (λ (text : List ℕ). text ++ flat_map f (drop (i + 1) xs)) grown ∙ append_assoc old (f x) (flat_map f (drop (i + 1) xs))
    ∙ ap (λ (ys : List _). old ++ flat_map f ys) (sym (rest_of xs i x low is)) ∙ e

pub row_more : {X Y : Type 0} (f : X → Y) (xs : List X) (i : ℕ) (x : X) (old new : List Y) (y : Y) → i < length xs → x ≡ get_or xs i x → y ≡ f x → new ≡ old ++ y ∷ []
    → old ≡ map f (take i xs) → new ≡ map f (take (i + 1) xs)
row_more f xs i x old new y low is made pushed was =
    pushed ∙ ap (λ ys. ys ++ y ∷ []) was ∙ ap (λ z. map f (take i xs) ++ z ∷ []) (made ∙ ap f is)
    ∙ sym (ap (λ ys. map f ys) (take_more xs i x low) ∙ map-append f (take i xs) (get_or xs i x ∷ []))
