-- A text against its pieces.
use Rattle.std.proofs.Common.{◌≡◌, ℕ, Bool, true, false, List, [], ◌∷◌, ◌++◌, Option, Some, None, refl, sym, ap, ◌∙◌, append_assoc}
use Rattle.std.specs.Prelude.{◌==◌, if◌then◌else◌}
use Rattle.std.proofs.lemmas.Bool.{eqb-true, eq-eqb, ne_eqb, and_parts}
use Rattle.maglev_texts.specs.Parsing.{before_first, behind_first, pieces_after, pieces}
use Rattle.maglev_texts.proofs.Numerals.{is_digit, digits_only}

-- a text without a byte
abbrev pub Lacks : ℕ → List ℕ → Type 0
Lacks c [] = Unit {0}
Lacks c (x ∷ xs) = ((x == c) ≡ false) × Lacks c xs

pub lacks_both : (c : ℕ) (xs ys : List ℕ) → Lacks c xs → Lacks c ys → Lacks c (xs ++ ys)
lacks_both c [] ys h k = k
lacks_both c (x ∷ xs) ys h k = (h.0, lacks_both c xs ys h.1 k)

pub none_behind : (xs : List ℕ) → xs ++ [] ≡ xs
none_behind [] = refl
none_behind (x ∷ xs) = ap (λ (l : List ℕ). x ∷ l) (none_behind xs)

-- a piece ends at the byte
pub cut : (c : ℕ) (begun xs rest : List ℕ) → Lacks c xs → pieces_after c begun (xs ++ c ∷ rest) ≡ (begun ++ xs) ∷ pieces_after c [] rest
cut c begun [] rest h =
    ap (λ (b : Bool). if b then begun ∷ pieces_after c [] rest else pieces_after c (begun ++ c ∷ []) rest) (eq-eqb c c refl)
    ∙ ap (λ (l : List ℕ). l ∷ pieces_after c [] rest) (sym (none_behind begun))
cut c begun (x ∷ xs) rest h =
    ap (λ (b : Bool). if b then begun ∷ pieces_after c [] (xs ++ c ∷ rest) else pieces_after c (begun ++ x ∷ []) (xs ++ c ∷ rest)) h.0
    ∙ cut c (begun ++ x ∷ []) xs rest h.1
    ∙ ap (λ (l : List ℕ). l ∷ pieces_after c [] rest) (append_assoc begun (x ∷ []) xs)

-- the last piece
pub last : (c : ℕ) (begun xs : List ℕ) → Lacks c xs → pieces_after c begun xs ≡ (begun ++ xs) ∷ []
last c begun [] h = ap (λ (l : List ℕ). l ∷ []) (sym (none_behind begun))
last c begun (x ∷ xs) h =
    ap (λ (b : Bool). if b then begun ∷ pieces_after c [] xs else pieces_after c (begun ++ x ∷ []) xs) h.0
    ∙ last c (begun ++ x ∷ []) xs h.1
    ∙ ap (λ (l : List ℕ). l ∷ []) (append_assoc begun (x ∷ []) xs)

-- the pieces, each behind the byte
abbrev pub joined : ℕ → List (List ℕ) → List ℕ
joined c [] = []
joined c (p ∷ ps) = c ∷ (p ++ joined c ps)

pub join_after : (c : ℕ) (begun text : List ℕ) → joined c (pieces_after c begun text) ≡ c ∷ (begun ++ text)
join_after c begun [] = refl
join_after c begun (b ∷ bs) = go (b == c) refl (join_after c [] bs) (join_after c (begun ++ b ∷ []) bs)
  where
    go : (t : Bool) → (b == c) ≡ t → joined c (pieces_after c [] bs) ≡ c ∷ bs → joined c (pieces_after c (begun ++ b ∷ []) bs) ≡ c ∷ ((begun ++ b ∷ []) ++ bs) → joined c (if t then begun ∷ pieces_after c [] bs else pieces_after c (begun ++ b ∷ []) bs) ≡ c ∷ (begun ++ b ∷ bs)
    go true e h k = ap (λ (l : List ℕ). c ∷ (begun ++ l)) (h ∙ ap (λ (x : ℕ). x ∷ bs) (sym (eqb-true b c e)))
    go false e h k = k ∙ ap (λ (l : List ℕ). c ∷ l) (append_assoc begun (b ∷ []) bs)

pub join_pieces : (c : ℕ) (text : List ℕ) → joined c (pieces c text) ≡ c ∷ text
join_pieces c text = join_after c [] text

-- digits lack every byte that is no digit
pub digits_lack : (c : ℕ) (ds : List ℕ) → is_digit c ≡ false → digits_only ds ≡ true → Lacks c ds
digits_lack c [] other h = tt
digits_lack c (d ∷ ds) other h =
    let p : (is_digit d ≡ true) × (digits_only ds ≡ true) = and_parts (is_digit d) (digits_only ds) h in
    (ne_eqb d c (λ e. let f : true ≡ false = sym p.0 ∙ ap is_digit e ∙ other in absurd cc), digits_lack c ds other p.1)

-- a text that lacks a byte is before the first place of it
pub before_none : (c : ℕ) (text : List ℕ) → Lacks c text → before_first c text ≡ text
before_none c [] h = refl
before_none c (x ∷ xs) h = ap (λ (b : Bool). if b then [] else x ∷ before_first c xs) h.0 ∙ ap (λ (l : List ℕ). x ∷ l) (before_none c xs h.1)

pub behind_none : (c : ℕ) (text : List ℕ) → Lacks c text → behind_first c text ≡ None
behind_none c [] h = refl
behind_none c (x ∷ xs) h = ap (λ (b : Bool). if b then Some xs else behind_first c xs) h.0 ∙ behind_none c xs h.1

-- the first place of a byte is behind a text that lacks it
pub before_at : (c : ℕ) (text rest : List ℕ) → Lacks c text → before_first c (text ++ c ∷ rest) ≡ text
before_at c [] rest h = ap (λ (b : Bool). if b then [] else c ∷ before_first c rest) (eq-eqb c c refl)
before_at c (x ∷ xs) rest h = ap (λ (b : Bool). if b then [] else x ∷ before_first c (xs ++ c ∷ rest)) h.0 ∙ ap (λ (l : List ℕ). x ∷ l) (before_at c xs rest h.1)

pub behind_at : (c : ℕ) (text rest : List ℕ) → Lacks c text → behind_first c (text ++ c ∷ rest) ≡ Some rest
behind_at c [] rest h = ap (λ (b : Bool). if b then Some rest else behind_first c rest) (eq-eqb c c refl)
behind_at c (x ∷ xs) rest h = ap (λ (b : Bool). if b then Some (xs ++ c ∷ rest) else behind_first c (xs ++ c ∷ rest)) h.0 ∙ behind_at c xs rest h.1

-- what is behind a text that lacks the byte
pub behind_lacking : (c : ℕ) (text rest : List ℕ) → Lacks c text → behind_first c (text ++ rest) ≡ behind_first c rest
behind_lacking c [] rest h = refl
behind_lacking c (x ∷ xs) rest h = ap (λ (b : Bool). if b then Some (xs ++ rest) else behind_first c (xs ++ rest)) h.0 ∙ behind_lacking c xs rest h.1

-- a text is what is before the first place of a byte, the byte, and what is behind it
pub parted : (c : ℕ) (text rest : List ℕ) → behind_first c text ≡ Some rest → text ≡ before_first c text ++ c ∷ rest
parted c [] rest h = absurd cc
parted c (b ∷ bs) rest h = go (b == c) refl (λ k. parted c bs rest k) h
  where
    go : (t : Bool) → (b == c) ≡ t → (behind_first c bs ≡ Some rest → bs ≡ before_first c bs ++ c ∷ rest) → (if t then Some bs else behind_first c bs) ≡ Some rest → b ∷ bs ≡ (if t then [] else b ∷ before_first c bs) ++ c ∷ rest
    go true e later k =
        let same : bs ≡ rest = cc in
        ap (λ (x : ℕ). x ∷ bs) (eqb-true b c e) ∙ ap (λ (l : List ℕ). c ∷ l) same
    go false e later k = ap (λ (l : List ℕ). b ∷ l) (later k)

-- the pieces behind the first
abbrev pub pieces_behind : ℕ → Option (List ℕ) → List (List ℕ)
pieces_behind c None = []
pieces_behind c (Some rest) = pieces_after c [] rest

pub first_piece : (c : ℕ) (begun text : List ℕ) → pieces_after c begun text ≡ (begun ++ before_first c text) ∷ pieces_behind c (behind_first c text)
first_piece c begun [] = ap (λ (l : List ℕ). l ∷ []) (sym (none_behind begun))
first_piece c begun (b ∷ bs) = go (b == c) (first_piece c (begun ++ b ∷ []) bs)
  where
    go : (t : Bool) → pieces_after c (begun ++ b ∷ []) bs ≡ ((begun ++ b ∷ []) ++ before_first c bs) ∷ pieces_behind c (behind_first c bs)
        → (if t then begun ∷ pieces_after c [] bs else pieces_after c (begun ++ b ∷ []) bs) ≡ (begun ++ (if t then [] else b ∷ before_first c bs)) ∷ pieces_behind c (if t then Some bs else behind_first c bs)
    go true h = ap (λ (l : List ℕ). l ∷ pieces_after c [] bs) (sym (none_behind begun))
    go false h = h ∙ ap (λ (l : List ℕ). l ∷ pieces_behind c (behind_first c bs)) (append_assoc begun (b ∷ []) (before_first c bs))
