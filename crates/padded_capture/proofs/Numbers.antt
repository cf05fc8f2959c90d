-- The numbers of a header whose captured length was raised.
use Rattle.std.proofs.Common.{◌≡◌, ℕ, suc, ◌+◌, ◌≤◌, Bool, true, false, List, [], ◌∷◌, ◌++◌, length, take, drop, slice_range, refl, sym, ap, ◌∙◌, arith, length-append, length-drop, length-take-le, take-append-drop}
use Rattle.std.specs.Prelude.{if◌then◌else◌}
use Rattle.byteorder.specs.Numbers.{big_from-take, little_from-take, big_from-cons, little_from-cons}
use Rattle.pcap_file.specs.declared.format.Order.{Order}
use Rattle.pcap_file.specs.declared.format.Order.TheVariants.{Big, Little}
use Rattle.pcap_file.specs.Format.{number_in}
use Rattle.pcap_file.proofs.Records.{number_in-append}
use Rattle.padded_capture.specs.Padding.{captured_in, original_in, mended}

number_cons : (order : Order) (i n a : ℕ) (xs : List ℕ) → number_in order (suc i) n (a ∷ xs) ≡ number_in order i n xs
number_cons Big i n a xs = big_from-cons i n a xs
number_cons Little i n a xs = little_from-cons i n a xs

number_take : (order : Order) (i n m : ℕ) (xs : List ℕ) → i + n ≤ m → number_in order i n (take m xs) ≡ number_in order i n xs
number_take Big i n m xs h = big_from-take i n m xs h
number_take Little i n m xs h = little_from-take i n m xs h

-- a number behind some bytes
number_behind : (order : Order) (j i n : ℕ) (xs ys : List ℕ) → j ≡ length xs + i → number_in order j n (xs ++ ys) ≡ number_in order i n ys
number_behind order j i n [] ys e = let same : j ≡ i = omega arith in ap (λ (m : ℕ). number_in order m n ys) same
number_behind order j i n (x ∷ xs) ys e =
    let same : j ≡ suc (length xs + i) = omega arith in
    ap (λ (m : ℕ). number_in order m n (x ∷ (xs ++ ys))) same ∙ number_cons order (length xs + i) n x (xs ++ ys) ∙ number_behind order (length xs + i) i n xs ys refl

four_length : (text : List ℕ) → 16 ≤ length text → length (slice_range text 12 16) ≡ 4
four_length text h = length-take-le 4 (drop 12 text) (omega (arith, length-drop 12 text))

four_number : (order : Order) (text : List ℕ) → 16 ≤ length text → number_in order 0 4 (slice_range text 12 16) ≡ original_in order text
four_number order text h =
    number_take order 0 4 4 (drop 12 text) (omega arith)
    ∙ sym (number_behind order 12 0 4 (take 12 text) (drop 12 text) (omega (arith, length-take-le 12 text (omega arith))))
    ∙ ap (number_in order 12 4) (take-append-drop 12 text)

pub mended_length : (b : Bool) (text : List ℕ) → 16 ≤ length text → length (mended b text) ≡ 16
mended_length true text h =
    omega (arith, length-append (take 8 text) (slice_range text 12 16 ++ slice_range text 12 16), length-append (slice_range text 12 16) (slice_range text 12 16), four_length text h, length-take-le 8 text (omega arith))
mended_length false text h = length-take-le 16 text h

-- what stands before the lengths
pub mended_front : (order : Order) (b : Bool) (i : ℕ) (text : List ℕ) → 16 ≤ length text → i + 4 ≤ 8 → number_in order i 4 (mended b text) ≡ number_in order i 4 text
mended_front order true i text h within =
    number_in-append order i 4 (take 8 text) (slice_range text 12 16 ++ slice_range text 12 16) (omega (arith, length-take-le 8 text (omega arith))) ∙ number_take order i 4 8 text within
mended_front order false i text h within = number_take order i 4 16 text (omega arith)

-- the captured length
pub mended_captured : (order : Order) (b : Bool) (text : List ℕ) → 16 ≤ length text → captured_in order (mended b text) ≡ (if b then original_in order text else captured_in order text)
mended_captured order true text h =
    let q = slice_range text 12 16 in
    number_behind order 8 0 4 (take 8 text) (q ++ q) (omega (arith, length-take-le 8 text (omega arith)))
    ∙ number_in-append order 0 4 q q (omega (arith, four_length text h))
    ∙ four_number order text h
mended_captured order false text h = number_take order 8 4 16 text (omega arith)

-- the original length
pub mended_original : (order : Order) (b : Bool) (text : List ℕ) → 16 ≤ length text → original_in order (mended b text) ≡ original_in order text
mended_original order true text h =
    let q = slice_range text 12 16 in
    number_behind order 12 4 4 (take 8 text) (q ++ q) (omega (arith, length-take-le 8 text (omega arith)))
    ∙ number_behind order 4 0 4 q q (omega (arith, four_length text h))
    ∙ four_number order text h
mended_original order false text h = number_take order 12 4 16 text (omega arith)
