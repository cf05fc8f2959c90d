-- What is shown of a text is plain, and short.
use Rattle.std.proofs.Common.{arith, ◌≡◌, ℕ, ◌<◌, ◌%◌, ◌/◌, Bool, true, false, List, [], ◌∷◌, ◌++◌, All, refl, ap, ◌∙◌, sym, if◌then◌else◌}
use Rattle.std.proofs.lemmas.Bool.{agree_below_at, false≢true}
use Rattle.std.proofs.lemmas.List.Elements.{All-append, All-cons, All-nil, All-head, All-tail}
use Rattle.std.specs.Char.{digit_char}
use Rattle.std.specs.Char.Escape.{hex_digit_at}
use Rattle.shown_text.specs.Lines.{is_plain, plain_char, plain_chars, code_text}

abbrev pub IsPlain : ℕ → Type 0
IsPlain c = is_plain c ≡ true

-- a hexadecimal digit is plain
digit_plain : (n : ℕ) → n < 16 → is_plain (digit_char n) ≡ true
digit_plain n low = agree_below_at (λ d. is_plain (digit_char d)) (λ _. true) 16 n refl low

-- the digit of a code at a place is plain
place_plain : (p c : ℕ) → is_plain (hex_digit_at p c) ≡ true
place_plain p c = digit_plain (c / p % 16) (omega arith)

one_plain : (c : ℕ) (cs : List ℕ) → IsPlain c → All IsPlain cs → All IsPlain (c ∷ cs)
one_plain c cs h hs = All-cons IsPlain c cs h hs

-- four digits from the one that is worth most on
abbrev digits_of : ℕ → List ℕ
digits_of c = hex_digit_at 0x1000 c ∷ hex_digit_at 0x100 c ∷ hex_digit_at 0x10 c ∷ hex_digit_at 1 c ∷ []

digits_plain : (c : ℕ) → All IsPlain (digits_of c)
digits_plain c =
    one_plain (hex_digit_at 0x1000 c) (hex_digit_at 0x100 c ∷ hex_digit_at 0x10 c ∷ hex_digit_at 1 c ∷ []) (place_plain 0x1000 c)
    (one_plain (hex_digit_at 0x100 c) (hex_digit_at 0x10 c ∷ hex_digit_at 1 c ∷ []) (place_plain 0x100 c)
    (one_plain (hex_digit_at 0x10 c) (hex_digit_at 1 c ∷ []) (place_plain 0x10 c)
    (one_plain (hex_digit_at 1 c) [] (place_plain 1 c) (All-nil IsPlain))))

code_plain : (c : ℕ) → All IsPlain (code_text c)
code_plain c = one_plain 92 (117 ∷ digits_of c) refl (one_plain 117 (digits_of c) refl (digits_plain c))

char_plain : (c : ℕ) → All IsPlain (plain_char c)
char_plain c = by_case (is_plain c) refl
  where
    by_case : (b : Bool) → is_plain c ≡ b → All IsPlain (if b then c ∷ [] else code_text c)
    by_case true h = one_plain c [] h (All-nil IsPlain)
    by_case false h = code_plain c

pub all_plain : (cs : List ℕ) → All IsPlain (plain_chars cs)
all_plain [] = All-nil IsPlain
all_plain (c ∷ cs) = All-append IsPlain (plain_char c) (plain_chars cs) (char_plain c) (all_plain cs)

-- a plain text stays as it is
pub same_plain : (cs : List ℕ) → All IsPlain cs → plain_chars cs ≡ cs
same_plain [] h = refl
same_plain (c ∷ cs) h =
    ap (λ (l : List ℕ). l ++ plain_chars cs) (here (is_plain c) refl (All-head IsPlain c cs h)) ∙ ap (λ (l : List ℕ). c ∷ l) (same_plain cs (All-tail IsPlain c cs h))
  where
    here : (b : Bool) → is_plain c ≡ b → is_plain c ≡ true → (if b then c ∷ [] else code_text c) ≡ c ∷ []
    here true e t = refl
    here false e t = absurd (false≢true (sym e ∙ t))
