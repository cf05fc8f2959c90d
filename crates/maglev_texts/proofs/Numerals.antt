-- Decimal numbers are read from what is printed of them, and from nothing else.
use Rattle.std.proofs.Common.{◌≡◌, ℕ, ◌+◌, ◌-◌, ◌*◌, ◌<◌, ◌≤◌, ◌^◌, Bool, true, false, List, [], ◌∷◌, length, get_or, zero, suc, Option, Some, None, refl, sym, ap, ◌∙◌, subst, arith, rules}
use Rattle.std.specs.Prelude.{◌==◌, ◌&&◌, nat_le, nat_lt, if◌then◌else◌}
use Rattle.std.specs.Fmt.{decimal}
use Rattle.std.proofs.lemmas.Bool.{leb-true, le-leb, and_parts, and_from, eqb-true, eq-eqb, ltb-true, ltb-false, false≢true}
use Rattle.std.proofs.lemmas.Fmt.{decimal_digit, decimal_nonempty, first_decimal, digits_decimal, digits_value-decimal, decimal-digits_value}
use Rattle.std.proofs.lemmas.Str.Parse.{IsNumeralModel, numerals_by_fold}
use Rattle.maglev_texts.specs.Parsing.{digits_after, decimal_of}
use Rattle.maglev_texts.specs.RoundTrips.{DecimalsAreReadBack, OnlyDecimalsAreRead}

abbrev pub is_digit : ℕ → Bool
is_digit b = nat_le 48 b && nat_le b 57

abbrev pub digits_only : List ℕ → Bool
digits_only [] = true
digits_only (b ∷ bs) = is_digit b && digits_only bs

abbrev pub read_on : ℕ → List ℕ → ℕ
read_on n [] = n
read_on n (b ∷ bs) = read_on (n * 10 + (b - 48)) bs

own : IsNumeralModel (λ ds. digits_only ds ≡ true) (read_on 0)
own = numerals_by_fold _ (search rules) read_on (search rules)

grows : (n : ℕ) (ds : List ℕ) → n ≤ read_on n ds
grows n [] = omega arith
grows n (b ∷ bs) = let h : n * 10 + (b - 48) ≤ read_on (n * 10 + (b - 48)) bs = grows (n * 10 + (b - 48)) bs in omega arith

-- digits of a number within the limit are read
fits : (limit n : ℕ) (ds : List ℕ) → digits_only ds ≡ true → read_on n ds ≤ limit → digits_after limit n ds ≡ Some (read_on n ds)
fits limit n [] h le = refl
fits limit n (b ∷ bs) h le =
    let p : (is_digit b ≡ true) × (digits_only bs ≡ true) = and_parts (is_digit b) (digits_only bs) h in
    let g : n * 10 + (b - 48) ≤ read_on (n * 10 + (b - 48)) bs = grows (n * 10 + (b - 48)) bs in
    let q : nat_le (n * 10 + (b - 48)) limit ≡ true = le-leb (n * 10 + (b - 48)) limit (omega arith) in
    ap (λ (t : Bool). if t then digits_after limit (n * 10 + (b - 48)) bs else None) (and_from (is_digit b) (nat_le (n * 10 + (b - 48)) limit) p.0 q)
    ∙ fits limit (n * 10 + (b - 48)) bs p.1 le

-- what is read are digits of that number
pub record Read (limit n m : ℕ) (ds : List ℕ) : Type 0 where
  pub digits : digits_only ds ≡ true
  pub value : m ≡ read_on n ds
  pub bound : n ≤ limit → m ≤ limit

some_same : (n m : ℕ) → Some n ≡ Some m → m ≡ n
some_same n m h = cc

none_some : (m : ℕ) → ◌≡◌ {A = Option ℕ} None (Some m) → ⊥
none_some m h = cc

reads : (limit n m : ℕ) (ds : List ℕ) → digits_after limit n ds ≡ Some m → Read limit n m ds
reads limit n m [] h = let e : m ≡ n = some_same n m h in record { digits = refl; value = e; bound = λ le. omega arith }
reads limit n m (b ∷ bs) h = go (is_digit b && nat_le (n * 10 + (b - 48)) limit) refl h (reads limit (n * 10 + (b - 48)) m bs)
  where
    go : (t : Bool) → (is_digit b && nat_le (n * 10 + (b - 48)) limit) ≡ t → (if t then digits_after limit (n * 10 + (b - 48)) bs else None) ≡ Some m → (digits_after limit (n * 10 + (b - 48)) bs ≡ Some m → Read limit (n * 10 + (b - 48)) m bs) → Read limit n m (b ∷ bs)
    go true e h k =
        let p : (is_digit b ≡ true) × (nat_le (n * 10 + (b - 48)) limit ≡ true) = and_parts (is_digit b) (nat_le (n * 10 + (b - 48)) limit) e in
        let r : Read limit (n * 10 + (b - 48)) m bs = k h in
        record { digits = and_from (is_digit b) (digits_only bs) p.0 r.digits; value = r.value; bound = λ le. r.bound (leb-true (n * 10 + (b - 48)) limit p.1) }
    go false e h k = absurd (none_some m h)

-- without a leading zero
from_parts : (limit n : ℕ) (ds : List ℕ) → digits_only ds ≡ true → 0 < length ds → (get_or ds 0 0 ≡ 48 → length ds ≡ 1) → read_on 0 ds ≡ n → n ≤ limit → decimal_of limit ds ≡ Some n
from_parts limit n [] h some lead v le = absurd (omega arith)
from_parts limit n (b ∷ bs) h some lead v le = go ((b == 48) && nat_lt 0 (length bs)) refl
  where
    go : (t : Bool) → ((b == 48) && nat_lt 0 (length bs)) ≡ t → (if t then None else digits_after limit 0 (b ∷ bs)) ≡ Some n
    go true e =
        let p : ((b == 48) ≡ true) × (nat_lt 0 (length bs) ≡ true) = and_parts (b == 48) (nat_lt 0 (length bs)) e in
        let one : suc (length bs) ≡ 1 = lead (eqb-true b 48 p.0) in
        let more : 0 < length bs = ltb-true 0 (length bs) p.1 in
        absurd (omega arith)
    go false e = fits limit 0 (b ∷ bs) h (subst (λ (m : ℕ). m ≤ limit) (sym v) le) ∙ ap (λ (m : ℕ). Some m) v

zero_alone : (n : ℕ) → n < 2 ^ 64 → get_or (decimal n) 0 0 ≡ 48 → length (decimal n) ≡ 1
zero_alone zero few h = ap length (decimal_digit 0 (omega arith))
zero_alone (suc n) few h = let f : 48 < get_or (decimal (suc n)) 0 0 = first_decimal (suc n) (omega arith) few in absurd (omega arith)

pub decimal_digits : (n : ℕ) → n < 2 ^ 64 → digits_only (decimal n) ≡ true
decimal_digits n few = digits_decimal own n few

pub read_back : DecimalsAreReadBack
read_back limit n small le =
    let few : n < 2 ^ 64 = omega arith in
    from_parts limit n (decimal n) (digits_decimal own n few) (decimal_nonempty n few) (zero_alone n few) (digits_value-decimal own n few) le

pub only_read : OnlyDecimalsAreRead
only_read limit n [] small h = absurd (none_some n h)
only_read limit n (b ∷ bs) small h = go ((b == 48) && nat_lt 0 (length bs)) refl h
  where
    alone : (t u : Bool) → (t && u) ≡ false → t ≡ true → u ≡ false
    alone true u e f = e
    alone false u e f = absurd (false≢true f)

    none_left : (xs : List ℕ) → nat_lt 0 (length xs) ≡ false → suc (length xs) ≡ 1
    none_left [] e = refl
    none_left (x ∷ xs) e = let l : suc (length xs) ≤ 0 = ltb-false 0 (suc (length xs)) e in absurd (omega arith)

    go : (t : Bool) → ((b == 48) && nat_lt 0 (length bs)) ≡ t → (if t then None else digits_after limit 0 (b ∷ bs)) ≡ Some n → (b ∷ bs ≡ decimal n) × (n ≤ limit)
    go true e k = absurd (none_some n k)
    go false e k =
        let r : Read limit 0 n (b ∷ bs) = reads limit 0 n (b ∷ bs) k in
        let bound : n ≤ limit = r.bound (omega arith) in
        let v : read_on 0 (b ∷ bs) < 2 ^ 64 = subst (λ (m : ℕ). m < 2 ^ 64) r.value (omega arith) in
        let d : decimal (read_on 0 (b ∷ bs)) ≡ b ∷ bs = decimal-digits_value own (b ∷ bs) r.digits (omega arith) (λ z. none_left bs (alone (b == 48) (nat_lt 0 (length bs)) e (eq-eqb b 48 z))) v in
        (sym d ∙ ap decimal (sym r.value), bound)
