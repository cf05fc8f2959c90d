-- Addresses are read from what is printed of them, and from nothing else.
use Rattle.std.proofs.Common.{◌≡◌, ℕ, ◌+◌, ◌*◌, ◌/◌, ◌%◌, ◌<◌, ◌≤◌, ◌^◌, List, [], ◌∷◌, ◌++◌, Option, Some, None, refl, sym, ap, ◌∙◌, arith}
use Rattle.std.specs.Prelude.{option_and_then, option_map}
use Rattle.std.specs.Fmt.{decimal}
use Rattle.maglev_texts.specs.Parsing.{decimal_of, pieces, address_of_pieces}
use Rattle.maglev_texts.specs.Printing.{address_text}
use Rattle.maglev_texts.specs.RoundTrips.{AddressesAreReadBack, OnlyAddressesAreRead}
use Rattle.maglev_texts.proofs.Numerals.{decimal_digits, read_back, only_read}
use Rattle.maglev_texts.proofs.Joins.{Lacks, cut, last, joined, join_pieces, digits_lack, none_behind}

number_lacks : (n : ℕ) → n < 2 ^ 64 → Lacks 46 (decimal n)
number_lacks n few = digits_lack 46 (decimal n) refl (decimal_digits n few)

abbrev pub dotted : ℕ → ℕ → ℕ → ℕ → List ℕ
dotted w x y z = decimal w ++ (46 ∷ (decimal x ++ (46 ∷ (decimal y ++ (46 ∷ decimal z)))))

pieces_dotted : (w x y z : ℕ) → w < 256 → x < 256 → y < 256 → z < 256 → pieces 46 (dotted w x y z) ≡ decimal w ∷ decimal x ∷ decimal y ∷ decimal z ∷ []
pieces_dotted w x y z a b c d =
    cut 46 [] (decimal w) (decimal x ++ (46 ∷ (decimal y ++ (46 ∷ decimal z)))) (number_lacks w (omega arith))
    ∙ ap (λ (l : List (List ℕ)). decimal w ∷ l) (cut 46 [] (decimal x) (decimal y ++ (46 ∷ decimal z)) (number_lacks x (omega arith))
    ∙ ap (λ (l : List (List ℕ)). decimal x ∷ l) (cut 46 [] (decimal y) (decimal z) (number_lacks y (omega arith))
    ∙ ap (λ (l : List (List ℕ)). decimal y ∷ l) (last 46 [] (decimal z) (number_lacks z (omega arith)))))

four_read : (w x y z : ℕ) → w < 256 → x < 256 → y < 256 → z < 256 → address_of_pieces (decimal w ∷ decimal x ∷ decimal y ∷ decimal z ∷ []) ≡ Some (((w * 256 + x) * 256 + y) * 256 + z)
four_read w x y z a b c d =
    let e : decimal_of 255 (decimal w) ≡ Some w = read_back 255 w (omega arith) (omega arith) in
    let f : decimal_of 255 (decimal x) ≡ Some x = read_back 255 x (omega arith) (omega arith) in
    let g : decimal_of 255 (decimal y) ≡ Some y = read_back 255 y (omega arith) (omega arith) in
    let h : decimal_of 255 (decimal z) ≡ Some z = read_back 255 z (omega arith) (omega arith) in
    rw (e, f, g, h) refl

pub addresses_read_back : AddressesAreReadBack
addresses_read_back a few =
    let w : a / 16777216 < 256 = omega arith in
    let x : a / 65536 % 256 < 256 = omega arith in
    let y : a / 256 % 256 < 256 = omega arith in
    let z : a % 256 < 256 = omega arith in
    let v : (((a / 16777216) * 256 + a / 65536 % 256) * 256 + a / 256 % 256) * 256 + a % 256 ≡ a = omega arith in
    ap address_of_pieces (pieces_dotted (a / 16777216) (a / 65536 % 256) (a / 256 % 256) (a % 256) w x y z)
    ∙ four_read (a / 16777216) (a / 65536 % 256) (a / 256 % 256) (a % 256) w x y z
    ∙ ap (λ (n : ℕ). Some n) v

-- four numbers make one address
pub record IsAddress (a w x y z : ℕ) : Type 0 where
  pub whole : ((w * 256 + x) * 256 + y) * 256 + z ≡ a
  pub first : w ≤ 255
  pub second : x ≤ 255
  pub third : y ≤ 255
  pub fourth : z ≤ 255

printed : (a w x y z : ℕ) → IsAddress a w x y z → dotted w x y z ≡ address_text a
printed a w x y z h =
    let whole : ((w * 256 + x) * 256 + y) * 256 + z ≡ a = h.whole in
    let p : w ≡ a / 16777216 = omega (arith, h.first, h.second, h.third, h.fourth) in
    let q : x ≡ a / 65536 % 256 = omega (arith, h.first, h.second, h.third, h.fourth) in
    let r : y ≡ a / 256 % 256 = omega (arith, h.first, h.second, h.third, h.fourth) in
    let s : z ≡ a % 256 = omega (arith, h.first, h.second, h.third, h.fourth) in
    ap (λ (n : ℕ). dotted n x y z) p ∙ ap (λ (n : ℕ). dotted (a / 16777216) n y z) q ∙ ap (λ (n : ℕ). dotted (a / 16777216) (a / 65536 % 256) n z) r ∙ ap (λ (n : ℕ). dotted (a / 16777216) (a / 65536 % 256) (a / 256 % 256) n) s

-- the pieces of what is read
abbrev pub ReadsFour : ℕ → List (List ℕ) → Type 0
ReadsFour a ps = (w : ℕ) × (x : ℕ) × (y : ℕ) × (z : ℕ) × IsAddress a w x y z × (ps ≡ decimal w ∷ decimal x ∷ decimal y ∷ decimal z ∷ [])

none_some : (a : ℕ) → ◌≡◌ {A = Option ℕ} None (Some a) → ⊥
none_some a h = cc

fourth : (a w x y : ℕ) (p q r s : List ℕ) → w ≤ 255 → x ≤ 255 → y ≤ 255 → p ≡ decimal w → q ≡ decimal x → r ≡ decimal y → (o : Option ℕ) → decimal_of 255 s ≡ o → option_map (λ z. ((w * 256 + x) * 256 + y) * 256 + z) o ≡ Some a → ReadsFour a (p ∷ q ∷ r ∷ s ∷ [])
fourth a w x y p q r s b c d e f g None h k = absurd (none_some a k)
fourth a w x y p q r s b c d e f g (Some z) h k =
    let o : (s ≡ decimal z) × (z ≤ 255) = only_read 255 z s (omega arith) h in
    let v : ((w * 256 + x) * 256 + y) * 256 + z ≡ a = cc in
    let t : p ∷ q ∷ r ∷ s ∷ [] ≡ decimal w ∷ decimal x ∷ decimal y ∷ decimal z ∷ [] = let i : s ≡ decimal z = o.0 in cc in
    (w, x, y, z, record { whole = v; first = b; second = c; third = d; fourth = o.1 }, t)

third : (a w x : ℕ) (p q r s : List ℕ) → w ≤ 255 → x ≤ 255 → p ≡ decimal w → q ≡ decimal x → (o : Option ℕ) → decimal_of 255 r ≡ o → option_and_then (λ y. option_map (λ z. ((w * 256 + x) * 256 + y) * 256 + z) (decimal_of 255 s)) o ≡ Some a → ReadsFour a (p ∷ q ∷ r ∷ s ∷ [])
third a w x p q r s b c e f None h k = absurd (none_some a k)
third a w x p q r s b c e f (Some y) h k = let o : (r ≡ decimal y) × (y ≤ 255) = only_read 255 y r (omega arith) h in fourth a w x y p q r s b c o.1 e f o.0 (decimal_of 255 s) refl k

second : (a w : ℕ) (p q r s : List ℕ) → w ≤ 255 → p ≡ decimal w → (o : Option ℕ) → decimal_of 255 q ≡ o → option_and_then (λ x. option_and_then (λ y. option_map (λ z. ((w * 256 + x) * 256 + y) * 256 + z) (decimal_of 255 s)) (decimal_of 255 r)) o ≡ Some a → ReadsFour a (p ∷ q ∷ r ∷ s ∷ [])
second a w p q r s b e None h k = absurd (none_some a k)
second a w p q r s b e (Some x) h k = let o : (q ≡ decimal x) × (x ≤ 255) = only_read 255 x q (omega arith) h in third a w x p q r s b o.1 e o.0 (decimal_of 255 r) refl k

first : (a : ℕ) (p q r s : List ℕ) → (o : Option ℕ) → decimal_of 255 p ≡ o → option_and_then (λ w. option_and_then (λ x. option_and_then (λ y. option_map (λ z. ((w * 256 + x) * 256 + y) * 256 + z) (decimal_of 255 s)) (decimal_of 255 r)) (decimal_of 255 q)) o ≡ Some a → ReadsFour a (p ∷ q ∷ r ∷ s ∷ [])
first a p q r s None h k = absurd (none_some a k)
first a p q r s (Some w) h k = let o : (p ≡ decimal w) × (w ≤ 255) = only_read 255 w p (omega arith) h in second a w p q r s o.1 o.0 (decimal_of 255 q) refl k

of_four : (a : ℕ) (ps : List (List ℕ)) → address_of_pieces ps ≡ Some a → ReadsFour a ps
of_four a [] h = absurd (none_some a h)
of_four a (p ∷ []) h = absurd (none_some a h)
of_four a (p ∷ q ∷ []) h = absurd (none_some a h)
of_four a (p ∷ q ∷ r ∷ []) h = absurd (none_some a h)
of_four a (p ∷ q ∷ r ∷ s ∷ []) h = first a p q r s (decimal_of 255 p) refl h
of_four a (p ∷ q ∷ r ∷ s ∷ t ∷ ts) h = absurd (none_some a h)

pub only_addresses_read : OnlyAddressesAreRead
only_addresses_read a text h =
    let f : ReadsFour a (pieces 46 text) = of_four a (pieces 46 text) h in
    let d : IsAddress a f.0 f.1 f.2 f.3 = f.4 in
    let j : joined 46 (pieces 46 text) ≡ 46 ∷ text = join_pieces 46 text in
    let k : joined 46 (pieces 46 text) ≡ joined 46 (decimal f.0 ∷ decimal f.1 ∷ decimal f.2 ∷ decimal f.3 ∷ []) = ap (joined 46) f.5 in
    let n : decimal f.3 ++ [] ≡ decimal f.3 = none_behind (decimal f.3) in
    let m : joined 46 (decimal f.0 ∷ decimal f.1 ∷ decimal f.2 ∷ decimal f.3 ∷ []) ≡ 46 ∷ dotted f.0 f.1 f.2 f.3 = ap (λ (l : List ℕ). 46 ∷ (decimal f.0 ++ (46 ∷ (decimal f.1 ++ (46 ∷ (decimal f.2 ++ (46 ∷ l))))))) n in
    let t : 46 ∷ text ≡ 46 ∷ dotted f.0 f.1 f.2 f.3 = sym j ∙ k ∙ m in
    let e : text ≡ dotted f.0 f.1 f.2 f.3 = cc in
    (e ∙ printed a f.0 f.1 f.2 f.3 d, (let whole : ((f.0 * 256 + f.1) * 256 + f.2) * 256 + f.3 ≡ a = d.whole in omega (arith, d.first, d.second, d.third, d.fourth)))
