-- The same where the device reports its bytes.
use Rattle.std.proofs.Common.{◌≡◌, ℕ, ◌-◌, ◌≤◌, ◌<◌, true, false, List, [], ◌++◌, Option, Some, None, Result, length, take, drop, replicate, refl, sym, ap, ◌∙◌, subst, arith, inl, inr, ◌⊎◌, length-take-le}
use Rattle.std.proofs.lemmas.List.{take-append-le, drop_all}
use Rattle.std.specs.Io.KnownBytes.{ReadConsumes, Consumes, Keeps, IsAtEnd}
use borrow.Rule.Slice.PartMut.{put_mid, post_of}
use Rattle.padded_capture.specs.declared.stage.Form.{Form}
use Rattle.padded_capture.specs.declared.stage.Form.TheVariants.{Unknown, Ordered, Plain}
use Rattle.padded_capture.specs.declared.stage.Turn.TheVariants.{Gather, Pass, Zero}
use Rattle.padded_capture.specs.Stages.{State, fresh, untouched, coming, coming_of, padded_of, ComesSame, Gave, Took, Passed, FitsIn, left_of, IsTurn, IsOver}
use Rattle.padded_capture.proofs.Coming.{gave_waiting, gave_zeros, took_bytes, passed_bytes, passed_end, waits_last, header_ends}

pub passed_known : (a b : Option (List ℕ)) (s s' : State) (bytes : List ℕ) → Consumes a b bytes → Passed s s' bytes → Consumes (coming_of s a) (coming_of s' b) bytes
passed_known None b s s' bytes p q = tt
passed_known (Some x) None s s' bytes p q = absurd p
passed_known (Some x) (Some y) s s' bytes p q = ap (coming s) p ∙ q y

pub gave_known : (a : Option (List ℕ)) (s s' : State) (bytes : List ℕ) → Gave s s' bytes → Consumes (coming_of s a) (coming_of s' a) bytes
gave_known None s s' bytes q = tt
gave_known (Some x) s s' bytes q = q x

pub took_known : (a b : Option (List ℕ)) (s s' : State) (bytes : List ℕ) → Consumes a b bytes → Took s s' bytes → Keeps (coming_of s a) (coming_of s' b)
took_known None b s s' bytes p q = tt
took_known (Some x) None s s' bytes p q = absurd p
took_known (Some x) (Some y) s s' bytes p q = sym (ap (coming s) p ∙ q y)

pub same_known : (a : Option (List ℕ)) (s s' : State) → ComesSame s s' → Keeps (coming_of s a) (coming_of s' a)
same_known None s s' q = tt
same_known (Some x) s s' q = sym (q x)

pub kept_known : (a b : Option (List ℕ)) (s : State) → Keeps a b → Keeps (coming_of s a) (coming_of s b)
kept_known None b s p = tt
kept_known (Some x) None s p = absurd p
kept_known (Some x) (Some y) s p = ap (coming s) p

pub end_known : (b : Option (List ℕ)) (s : State) → IsAtEnd b → coming s [] ≡ [] → IsAtEnd (coming_of s b)
end_known None s p e = tt
end_known (Some y) s p e = ap (coming s) p ∙ e

-- ---- a read of a stage

pub coming_same : (a : Option (List ℕ)) (s s' : State) → ComesSame s s' → coming_of s a ≡ coming_of s' a
coming_same None s s' q = refl
coming_same (Some x) s s' q = ap (λ (l : List ℕ). Some l) (q x)

-- a stage from which the same comes is read in its place
pub read_same : {E : Type 0} (a b : Option (List ℕ)) (s s1 s' : State) (r : Result ℕ E) (buf : List ℕ) → ComesSame s s1
    → ReadConsumes (coming_of s1 a) (coming_of s' b) r buf → ReadConsumes (coming_of s a) (coming_of s' b) r buf
read_same a b s s1 s' r buf q h = subst (λ (o : Option (List ℕ)). ReadConsumes o (coming_of s' b) r buf) (sym (coming_same a s s1 q)) h

-- bytes that waited were handed out
pub gave_turn : (s s' : State) (n : ℕ) (buf : List ℕ) → s.is_gathering ≡ false → s' ≡ record s { waiting = drop n s.waiting } → take n buf ≡ take n s.waiting → Gave s s' (take n buf)
gave_turn s s' n buf e is bytes = λ text.
    gave_waiting s n e text
    ∙ ap (λ (l : List ℕ). l ++ coming (record s { waiting = drop n s.waiting }) text) (sym bytes)
    ∙ ap (λ (x : State). take n buf ++ coming x text) (sym is)

-- zeros were handed out
pub zero_turn : (s s' : State) (n : ℕ) (buf : List ℕ) → IsTurn Zero s → n ≤ s.zeros → s' ≡ record s { zeros = s.zeros - n } → take n buf ≡ replicate n 0 → Gave s s' (take n buf)
zero_turn s s' n buf turn fits is bytes = λ text.
    gave_zeros s turn.4.0 n turn.0 turn.1 turn.4.1 turn.3 fits text
    ∙ ap (λ (l : List ℕ). l ++ coming (record s { zeros = s.zeros - n }) text) (sym bytes)
    ∙ ap (λ (x : State). take n buf ++ coming x text) (sym is)

-- bytes came as they are
pub pass_turn : (s s' : State) (n : ℕ) (bytes : List ℕ) → IsTurn Pass s → FitsIn s.form n s.plain → length bytes ≡ n → s' ≡ record s { plain = left_of s.form s.plain n } → Passed s s' bytes
pass_turn s s' n bytes turn fits count is = λ text.
    passed_bytes s n bytes turn.0 turn.1 count fits text ∙ ap (λ (x : State). bytes ++ coming x text) (sym is)

pub fewer_fit : (form : Form) (n m plain : ℕ) → n ≤ m → FitsIn form m plain → FitsIn form n plain
fewer_fit Unknown n m plain h fits = tt
fewer_fit (Ordered order) n m plain h fits = omega (arith, h, fits)
fewer_fit Plain n m plain h fits = tt

pub none_fit : (form : Form) (plain : ℕ) → FitsIn form 0 plain
none_fit Unknown plain = tt
none_fit (Ordered order) plain = omega arith
none_fit Plain plain = tt

-- nothing came, since the text is over
pub pass_over : (s s' : State) (n : ℕ) → IsTurn Pass s → s' ≡ record s { plain = left_of s.form s.plain n } → n ≡ 0 → coming s' [] ≡ []
pass_over s s' n turn is none =
    sym (pass_turn s s' 0 [] turn (none_fit s.form s.plain) refl (is ∙ ap (λ (k : ℕ). record s { plain = left_of s.form s.plain k }) none) []) ∙ passed_end s turn.0 turn.1 turn.2

pub front_read : (k n : ℕ) (xs ys : List ℕ) → n ≤ length ys → take n (put_mid 0 k xs ys) ≡ take n ys
front_read k n xs ys h = take-append-le n ys (post_of 0 k xs) h

pub pass_read : (a b : Option (List ℕ)) (s s' : State) (k n : ℕ) (xs ys : List ℕ) → IsTurn Pass s → FitsIn s.form n s.plain → n ≤ length ys → 0 < length ys
    → s' ≡ record s { plain = left_of s.form s.plain n } → Consumes a b (take n ys) × (n ≡ 0 → 0 < length ys → IsAtEnd b)
    → Consumes (coming_of s a) (coming_of s' b) (take n (put_mid 0 k xs ys)) × (n ≡ 0 → 0 < length (put_mid 0 k xs ys) → IsAtEnd (coming_of s' b))
pass_read a b s s' k n xs ys turn fits within some is read = (
  subst (Consumes (coming_of s a) (coming_of s' b)) (sym (front_read k n xs ys within))
      (passed_known a b s s' (take n ys) read.0 (pass_turn s s' n (take n ys) turn fits (length-take-le n ys within) is)),
  λ none _. end_known b s' (read.1 none some) (pass_over s s' n turn is none),
)

-- a header was whole, or the text is over, and what waited was handed out
pub header_over : (b : Option (List ℕ)) (s s' : State) (n : ℕ) → (0 < length s.waiting) ⊎ IsOver s b → s' ≡ record s { waiting = drop n s.waiting } → n ≡ 0 → length s.waiting ≡ 0
    → IsAtEnd (coming_of s' b)
header_over b s s' n (inl some) is none empty = absurd (omega arith)
header_over b s s' n (inr over) is none empty =
    let gives : s'.is_gathering ≡ false = ap (λ (x : State). x.is_gathering) is ∙ over.0 in
    let form : s'.form ≡ Plain = ap (λ (x : State). x.form) is ∙ over.1 in
    let waits : s'.waiting ≡ [] = ap (λ (x : State). x.waiting) is ∙ drop_all n s.waiting (omega arith) in
    end_known b s' over.2 (waits_last s' gives form ∙ waits)

-- at the end of the text what was kept of a header comes as it is
pub header_kept : (a b : Option (List ℕ)) (s s' : State) → IsTurn Gather s → s' ≡ record s { form = Plain; is_gathering = false } → Consumes a b [] → IsAtEnd b → Keeps (coming_of s a) (coming_of s' b)
header_kept None b s s' turn is p end = tt
header_kept (Some x) None s s' turn is p end = absurd p
header_kept (Some x) (Some y) s s' turn is p end =
    let gives : s'.is_gathering ≡ false = ap (λ (z : State). z.is_gathering) is in
    let form : s'.form ≡ Plain = ap (λ (z : State). z.form) is in
    let waits : s'.waiting ≡ s.waiting = ap (λ (z : State). z.waiting) is in
    ap (coming s') end ∙ waits_last s' gives form ∙ waits ∙ sym (header_ends s turn.0 turn.1) ∙ ap (coming s) (sym (p ∙ end))

-- some bytes of a header were kept
pub header_more : (a b : Option (List ℕ)) (s s1 s' : State) (bytes : List ℕ) → s.is_gathering ≡ true → s1 ≡ record s { waiting = s.waiting ++ bytes } → ComesSame s1 s' → Consumes a b bytes
    → Keeps (coming_of s a) (coming_of s' b)
header_more a b s s1 s' bytes e is same p =
    took_known a b s s' bytes p (λ text. took_bytes s bytes e text ∙ ap (λ (x : State). coming x text) (sym is) ∙ same text)

-- a read of a stage that is the same
pub keeps_both : (a b c : Option (List ℕ)) → a ≡ b → Keeps b c → Keeps a c
keeps_both a b c e h = subst (λ (o : Option (List ℕ)). Keeps o c) (sym e) h

pub Consumes_kept : (a b c : Option (List ℕ)) (bytes : List ℕ) → Keeps a b → Consumes b c bytes → Consumes a c bytes
Consumes_kept None b c bytes p q = tt
Consumes_kept (Some x) None c bytes p q = absurd p
Consumes_kept (Some x) (Some y) None bytes p q = absurd q
Consumes_kept (Some x) (Some y) (Some z) bytes p q = sym p ∙ q

pub fresh_padded : (a : Option (List ℕ)) → coming_of fresh a ≡ padded_of a
unfolding coming
fresh_padded None = refl
fresh_padded (Some x) = refl

pub plain_same : (a : Option (List ℕ)) → coming_of untouched a ≡ a
unfolding coming
plain_same None = refl
plain_same (Some x) = refl
