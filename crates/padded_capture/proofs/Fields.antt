-- The bytes that wait in a stage's text.
use Rattle.std.proofs.Common.{◌≡◌, ℕ, ◌+◌, ◌≤◌, List, ◌++◌, length, take, drop, sym, ap, ◌∙◌, arith}
use Rattle.std.proofs.lemmas.Slice.{take-put_mid}
use borrow.Rule.Slice.PartMut.{put_mid}
use Rattle.std.specs.Prelude.{Bool, nat_lt, ◌&&◌, not}
use Rattle.pcap_file.specs.declared.format.Order.{Order}
use Rattle.pcap_file.specs.Format.{max_captured}
use Rattle.padded_capture.specs.Padding.{captured_in, original_in, mended, missing, whole_head, missing_in}
use Rattle.padded_capture.specs.Stages.{State}

-- equal stages with equal bytes
pub renewed : (s t : State) (w v : List ℕ) → s ≡ t → w ≡ v → record s { waiting = w } ≡ record t { waiting = v }
renewed s t w v e f = ap (λ (x : State). record x { waiting = w }) e ∙ ap (λ (l : List ℕ). record t { waiting = l }) f

-- the front of a text that waits
pub front_is : (text waiting : List ℕ) (given held : ℕ) → given ≡ 0 → drop given (take held text) ≡ waiting → take held text ≡ waiting
front_is text waiting given held none e = ap (λ (n : ℕ). drop n (take held text)) (sym none) ∙ e

-- bytes behind those that wait
pub kept_behind : (text bytes waiting ys : List ℕ) (given held k : ℕ) → given ≡ 0 → held ≤ length text → bytes ≡ ys → drop given (take held text) ≡ waiting
    → drop given (take (held + length ys) (put_mid held k text bytes)) ≡ waiting ++ ys
kept_behind text bytes waiting ys given held k none within same e =
    let front : take (held + length ys) (put_mid held k text bytes) ≡ take held text ++ bytes = take-put_mid held k text bytes (held + length ys) (omega (arith, ap length same)) within in
    ap (λ (n : ℕ). drop n (take (held + length ys) (put_mid held k text bytes))) none
    ∙ front
    ∙ ap (λ (l : List ℕ). l ++ bytes) (ap (λ (n : ℕ). drop n (take held text)) (sym none) ∙ e)
    ∙ ap (λ (l : List ℕ). waiting ++ l) same

abbrev cuts : ℕ → ℕ → Bool
cuts captured original = nat_lt captured original && not (nat_lt max_captured original)

-- the header by its numbers
pub mended_same : (order : Order) (w : List ℕ) (captured original : ℕ) → captured ≡ captured_in order w → original ≡ original_in order w → mended (cuts captured original) w ≡ whole_head order w
mended_same order w captured original a b =
    ap (λ (n : ℕ). mended (cuts n original) w) a ∙ ap (λ (n : ℕ). mended (cuts (captured_in order w) n) w) b

pub missing_same : (order : Order) (w : List ℕ) (captured original : ℕ) → captured ≡ captured_in order w → original ≡ original_in order w
    → missing (cuts captured original) captured original ≡ missing_in order w
missing_same order w captured original a b =
    ap (λ (n : ℕ). missing (cuts n original) n original) a ∙ ap (λ (n : ℕ). missing (cuts (captured_in order w) n) (captured_in order w) n) b
