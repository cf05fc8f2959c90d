-- The records of a text, one at a time.
use Rattle.std.proofs.Common.{◌≡◌, ℕ, zero, suc, ◌+◌, ◌-◌, ◌≤◌, ◌<◌, Bool, List, [], ◌∷◌, ◌++◌, Option, Some, None, length, take, drop, slice_range, replicate, refl, sym, ap, ◌∙◌, arith, ◌⊎◌, ⊎_elim, length-append, append_assoc, take_at, drop_at, length-drop}
use Rattle.std.specs.Prelude.{nat_lt, if◌then◌else◌, ◌&&◌, not}
use Rattle.std.proofs.lemmas.List.{take-append-le, drop-append-le, drop-drop, replicate-append-replicate}
use Rattle.std.proofs.lemmas.Bool.Decides.{nat_tests}
use lib.Seq.{take-add}
use Rattle.pcap_file.specs.declared.format.Order.{Order}
use Rattle.pcap_file.specs.declared.format.Order.TheVariants.{Big}
use Rattle.pcap_file.specs.declared.format.Fraction.{Fraction}
use Rattle.pcap_file.specs.Format.{number_in, magic_of, max_captured}
use Rattle.pcap_file.proofs.Records.{number_in-append}
use Rattle.padded_capture.specs.Padding.{captured_in, original_in, is_cut, missing_in, whole_head, followed, padded_within, padded_records, padded_in, padded}

reaches : (a b : ℕ) → (a < b) ⊎ (b ≤ a)
reaches a b = grind arith

no_bytes : (text : List ℕ) → length text ≤ 0 → text ≡ []
no_bytes [] h = refl
no_bytes (x ∷ xs) h = absurd (omega arith)

-- ---- what follows a header

pub followed_short : (behind : List ℕ → List ℕ) (plain missing : ℕ) (text : List ℕ) → length text < plain → followed behind plain missing text ≡ text
followed_short behind plain missing text h = grind (arith, nat_tests)

pub followed_long : (behind : List ℕ → List ℕ) (plain missing : ℕ) (text : List ℕ) → plain ≤ length text
    → followed behind plain missing text ≡ take plain text ++ (replicate missing 0 ++ behind (drop plain text))
followed_long behind plain missing text h = grind (arith, nat_tests)

followed_same : (f g : List ℕ → List ℕ) (plain missing : ℕ) (text : List ℕ) → f (drop plain text) ≡ g (drop plain text) → followed f plain missing text ≡ followed g plain missing text
followed_same f g plain missing text e = ap (λ (l : List ℕ). if nat_lt (length text) plain then text else take plain text ++ (replicate missing 0 ++ l)) e

-- ---- a text has no more records than bytes

within_none : (order : Order) (n : ℕ) → padded_within order n [] ≡ []
within_none order zero = refl
within_none order (suc n) = refl

within_enough : (order : Order) (n m : ℕ) (text : List ℕ) → length text ≤ n → length text ≤ m → padded_within order n text ≡ padded_within order m text
within_enough order zero m text h k =
    ap (λ (l : List ℕ). padded_within order zero l) (no_bytes text h) ∙ sym (within_none order m) ∙ ap (λ (l : List ℕ). padded_within order m l) (sym (no_bytes text h))
within_enough order (suc n) zero text h k =
    ap (λ (l : List ℕ). padded_within order (suc n) l) (no_bytes text k) ∙ ap (λ (l : List ℕ). padded_within order zero l) (sym (no_bytes text k))
within_enough order (suc n) (suc m) text h k =
    ⊎_elim
    (λ (short : length text < 16). grind (arith, nat_tests))
    (λ (long : 16 ≤ length text).
    let behind = drop (captured_in order text) (drop 16 text) in
    let fewer : length behind + 16 ≤ length text = omega (arith, length-drop (captured_in order text) (drop 16 text), length-drop 16 text) in
    let same = within_enough order n m behind (omega arith) (omega arith) in
    ap (λ (l : List ℕ). if nat_lt (length text) 16 then text else whole_head order text ++ l) (followed_same (padded_within order n) (padded_within order m) (captured_in order text) (missing_in order text) (drop 16 text) same))
    (reaches (length text) 16)

-- ---- the records of a text

pub records_short : (order : Order) (text : List ℕ) → length text < 16 → padded_records order text ≡ text
unfolding padded_records
records_short order [] h = refl
records_short order (x ∷ xs) h = grind (arith, nat_tests)

records_many : (order : Order) (n : ℕ) (text : List ℕ) → length text ≡ suc n → 16 ≤ length text
    → padded_within order (suc n) text ≡ whole_head order text ++ followed (padded_records order) (captured_in order text) (missing_in order text) (drop 16 text)
unfolding padded_records
records_many order n text e long =
    let behind = drop (captured_in order text) (drop 16 text) in
    let fewer : length behind + 16 ≤ length text = omega (arith, length-drop (captured_in order text) (drop 16 text), length-drop 16 text) in
    let same : padded_within order n behind ≡ padded_within order (length behind) behind = within_enough order n (length behind) behind (omega arith) (omega arith) in
    let first : padded_within order (suc n) text ≡ whole_head order text ++ followed (padded_within order n) (captured_in order text) (missing_in order text) (drop 16 text) = grind (arith, nat_tests) in
    first ∙ ap (λ (l : List ℕ). whole_head order text ++ l) (followed_same (padded_within order n) (λ t. padded_within order (length t) t) (captured_in order text) (missing_in order text) (drop 16 text) same)

pub records_long : (order : Order) (text : List ℕ) → 16 ≤ length text
    → padded_records order text ≡ whole_head order text ++ followed (padded_records order) (captured_in order text) (missing_in order text) (drop 16 text)
unfolding padded_records
records_long order [] long = absurd (omega arith)
records_long order (x ∷ xs) long = records_many order (length xs) (x ∷ xs) refl long

-- ---- a header in front of a text

abbrev raised : Bool → List ℕ → List ℕ → List ℕ → List ℕ
raised b front original all = if b then front ++ (original ++ original) else all

slice_front : (w text : List ℕ) → length w ≡ 16 → slice_range (w ++ text) 12 16 ≡ slice_range w 12 16
slice_front w text e =
    ap (take 4) (drop-append-le 12 w text (omega arith)) ∙ take-append-le 4 (drop 12 w) text (omega (arith, length-drop 12 w))

cut_front : (order : Order) (w text : List ℕ) → length w ≡ 16 → is_cut order (w ++ text) ≡ is_cut order w
cut_front order w text e =
    ap (λ (n : ℕ). nat_lt n (original_in order (w ++ text)) && not (nat_lt max_captured (original_in order (w ++ text)))) (number_in-append order 8 4 w text (omega arith))
    ∙ ap (λ (n : ℕ). nat_lt (captured_in order w) n && not (nat_lt max_captured n)) (number_in-append order 12 4 w text (omega arith))

missing_front : (order : Order) (w text : List ℕ) → length w ≡ 16 → missing_in order (w ++ text) ≡ missing_in order w
missing_front order w text e =
    ap (λ (b : Bool). if b then original_in order (w ++ text) - captured_in order (w ++ text) else 0) (cut_front order w text e)
    ∙ ap (λ (n : ℕ). if is_cut order w then original_in order (w ++ text) - n else 0) (number_in-append order 8 4 w text (omega arith))
    ∙ ap (λ (n : ℕ). if is_cut order w then n - captured_in order w else 0) (number_in-append order 12 4 w text (omega arith))

head_front : (order : Order) (w text : List ℕ) → length w ≡ 16 → whole_head order (w ++ text) ≡ whole_head order w
head_front order w text e =
    ap (λ (b : Bool). raised b (take 8 (w ++ text)) (slice_range (w ++ text) 12 16) (take 16 (w ++ text))) (cut_front order w text e)
    ∙ ap (λ (l : List ℕ). raised (is_cut order w) l (slice_range (w ++ text) 12 16) (take 16 (w ++ text))) (take-append-le 8 w text (omega arith))
    ∙ ap (λ (l : List ℕ). raised (is_cut order w) (take 8 w) l (take 16 (w ++ text))) (slice_front w text e)
    ∙ ap (λ (l : List ℕ). raised (is_cut order w) (take 8 w) (slice_range w 12 16) l) (take-append-le 16 w text (omega arith))

-- the 16 bytes of a record, and what is behind them
pub records_behind : (order : Order) (w text : List ℕ) → length w ≡ 16
    → padded_records order (w ++ text) ≡ whole_head order w ++ followed (padded_records order) (captured_in order w) (missing_in order w) text
records_behind order w text e =
    records_long order (w ++ text) (omega (arith, length-append w text))
    ∙ ap (λ (l : List ℕ). l ++ followed (padded_records order) (captured_in order (w ++ text)) (missing_in order (w ++ text)) (drop 16 (w ++ text))) (head_front order w text e)
    ∙ ap (λ (n : ℕ). whole_head order w ++ followed (padded_records order) n (missing_in order (w ++ text)) (drop 16 (w ++ text))) (number_in-append order 8 4 w text (omega arith))
    ∙ ap (λ (n : ℕ). whole_head order w ++ followed (padded_records order) (captured_in order w) n (drop 16 (w ++ text))) (missing_front order w text e)
    ∙ ap (λ (l : List ℕ). whole_head order w ++ followed (padded_records order) (captured_in order w) (missing_in order w) l) (drop_at w text 16 e)

-- ---- the file header

in_short : (form : Option (Order × Fraction)) (text : List ℕ) → length text < 24 → padded_in form text ≡ text
in_short None text h = refl
in_short (Some form) text h = grind (arith, nat_tests)

pub padded_short : (text : List ℕ) → length text < 24 → padded text ≡ text
unfolding padded
padded_short text h = in_short (magic_of (number_in Big 0 4 text)) text h

pub padded_long : (w text : List ℕ) → length w ≡ 24 → padded (w ++ text) ≡ padded_in (magic_of (number_in Big 0 4 w)) (w ++ text)
unfolding padded
padded_long w text e = ap (λ (n : ℕ). padded_in (magic_of n) (w ++ text)) (number_in-append Big 0 4 w text (omega arith))

pub in_long : (form : Order × Fraction) (w text : List ℕ) → length w ≡ 24 → padded_in (Some form) (w ++ text) ≡ w ++ padded_records form.0 text
in_long form w text e =
    let long : 24 ≤ length (w ++ text) = omega (arith, length-append w text) in
    let first : padded_in (Some form) (w ++ text) ≡ take 24 (w ++ text) ++ padded_records form.0 (drop 24 (w ++ text)) = grind (arith, nat_tests) in
    first ∙ ap (λ (l : List ℕ). l ++ padded_records form.0 (drop 24 (w ++ text))) (take_at w text 24 e) ∙ ap (λ (l : List ℕ). w ++ padded_records form.0 l) (drop_at w text 24 e)

-- ---- some bytes of what follows

pub followed_passed : (behind : List ℕ → List ℕ) (plain missing n : ℕ) (bytes text : List ℕ) → length bytes ≡ n → n ≤ plain
    → followed behind plain missing (bytes ++ text) ≡ bytes ++ followed behind (plain - n) missing text
followed_passed behind plain missing n bytes text e h =
    let all = bytes ++ text in
    let m = plain - n in
    let split : n + m ≡ plain = omega arith in
    let count : length all ≡ n + length text = omega (arith, length-append bytes text) in
    ⊎_elim
    (λ (short : length all < plain). followed_short behind plain missing all short ∙ ap (λ (l : List ℕ). bytes ++ l) (sym (followed_short behind m missing text (omega arith))))
    (λ (long : plain ≤ length all).
    let front : take plain all ≡ bytes ++ take m text =
    ap (λ (k : ℕ). take k all) (sym split) ∙ take-add n m all ∙ ap (λ (l : List ℕ). l ++ take m (drop n all)) (take_at bytes text n e) ∙ ap (λ (l : List ℕ). bytes ++ take m l) (drop_at bytes text n e) in
    let back : drop plain all ≡ drop m text = ap (λ (k : ℕ). drop k all) (sym split) ∙ sym (drop-drop m n all) ∙ ap (drop m) (drop_at bytes text n e) in
    followed_long behind plain missing all long
    ∙ ap (λ (l : List ℕ). l ++ (replicate missing 0 ++ behind (drop plain all))) front
    ∙ ap (λ (l : List ℕ). (bytes ++ take m text) ++ (replicate missing 0 ++ behind l)) back
    ∙ append_assoc bytes (take m text) (replicate missing 0 ++ behind (drop m text))
    ∙ ap (λ (l : List ℕ). bytes ++ l) (sym (followed_long behind m missing text (omega arith))))
    (reaches (length all) plain)

pub followed_zeros : (behind : List ℕ → List ℕ) (missing n : ℕ) (text : List ℕ) → n ≤ missing → followed behind 0 missing text ≡ replicate n 0 ++ followed behind 0 (missing - n) text
followed_zeros behind missing n text h =
    let m = missing - n in
    let split : n + m ≡ missing = omega arith in
    followed_long behind 0 missing text (omega arith)
    ∙ ap (λ (k : ℕ). replicate k 0 ++ behind (drop 0 text)) (sym split)
    ∙ ap (λ (l : List ℕ). l ++ behind (drop 0 text)) (sym (replicate-append-replicate n m 0))
    ∙ append_assoc (replicate n 0) (replicate m 0) (behind (drop 0 text))
    ∙ ap (λ (l : List ℕ). replicate n 0 ++ l) (sym (followed_long behind 0 m text (omega arith)))

pub followed_none : (behind : List ℕ → List ℕ) (text : List ℕ) → followed behind 0 0 text ≡ behind text
followed_none behind text = followed_long behind 0 0 text (omega arith)
