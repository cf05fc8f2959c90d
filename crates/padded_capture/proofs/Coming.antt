-- What comes after each move of a stage.
use Rattle.std.proofs.Common.{◌≡◌, ℕ, ◌-◌, ◌≤◌, ◌<◌, Bool, true, false, List, [], ◌++◌, Option, Some, None, length, take, drop, replicate, refl, sym, ap, ◌∙◌, arith, append_assoc, append-nil, take-append-drop}
use Rattle.std.specs.Prelude.{if◌then◌else◌}
use Rattle.pcap_file.specs.declared.format.Order.{Order}
use Rattle.pcap_file.specs.declared.format.Order.TheVariants.{Big}
use Rattle.pcap_file.specs.declared.format.Fraction.{Fraction}
use Rattle.pcap_file.specs.Format.{number_in, magic_of}
use Rattle.padded_capture.specs.declared.stage.Form.{Form}
use Rattle.padded_capture.specs.declared.stage.Form.TheVariants.{Unknown, Ordered, Plain}
use Rattle.padded_capture.specs.Padding.{captured_in, missing_in, whole_head, padded_records, padded_in}
use Rattle.padded_capture.specs.Stages.{State, header_len, form_of, padded_from, followed_from, coming, ComesSame, Gave, Took, Passed, left_of, FitsIn}
use Rattle.padded_capture.proofs.Records.{records_short, records_behind, padded_short, padded_long, in_long, followed_short, followed_passed, followed_zeros, followed_none}

abbrev comes : Bool → Form → List ℕ → ℕ → ℕ → List ℕ → List ℕ
comes b form waiting plain missing text = if b then padded_from form (waiting ++ text) else waiting ++ followed_from form plain missing text

coming_is : (s : State) (text : List ℕ) → coming s text ≡ comes s.is_gathering s.form s.waiting s.plain s.zeros text
unfolding coming
coming_is s text = refl

pub gathering_comes : (s : State) (text : List ℕ) → s.is_gathering ≡ true → coming s text ≡ padded_from s.form (s.waiting ++ text)
gathering_comes s text e = coming_is s text ∙ ap (λ (b : Bool). comes b s.form s.waiting s.plain s.zeros text) e

pub giving_comes : (s : State) (text : List ℕ) → s.is_gathering ≡ false → coming s text ≡ s.waiting ++ followed_from s.form s.plain s.zeros text
giving_comes s text e = coming_is s text ∙ ap (λ (b : Bool). comes b s.form s.waiting s.plain s.zeros text) e

pub following_comes : (s : State) (text : List ℕ) → s.is_gathering ≡ false → s.waiting ≡ [] → coming s text ≡ followed_from s.form s.plain s.zeros text
following_comes s text e none = giving_comes s text e ∙ ap (λ (w : List ℕ). w ++ followed_from s.form s.plain s.zeros text) none

-- bytes that waited are handed out
pub gave_waiting : (s : State) (n : ℕ) → s.is_gathering ≡ false → Gave s (record s { waiting = drop n s.waiting }) (take n s.waiting)
gave_waiting s n e = λ text.
    giving_comes s text e
    ∙ ap (λ (w : List ℕ). w ++ followed_from s.form s.plain s.zeros text) (sym (take-append-drop n s.waiting))
    ∙ append_assoc (take n s.waiting) (drop n s.waiting) (followed_from s.form s.plain s.zeros text)
    ∙ ap (λ (l : List ℕ). take n s.waiting ++ l) (sym (giving_comes (record s { waiting = drop n s.waiting }) text e))

-- bytes of a header are kept
pub took_bytes : (s : State) (bytes : List ℕ) → s.is_gathering ≡ true → Took s (record s { waiting = s.waiting ++ bytes }) bytes
took_bytes s bytes e = λ text.
    gathering_comes s (bytes ++ text) e
    ∙ ap (padded_from s.form) (sym (append_assoc s.waiting bytes text))
    ∙ sym (gathering_comes (record s { waiting = s.waiting ++ bytes }) text e)

followed_form : (form : Form) (plain missing n : ℕ) (bytes text : List ℕ) → length bytes ≡ n → FitsIn form n plain
    → followed_from form plain missing (bytes ++ text) ≡ bytes ++ followed_from form (left_of form plain n) missing text
followed_form Unknown plain missing n bytes text e h = refl
followed_form (Ordered order) plain missing n bytes text e h = followed_passed (padded_records order) plain missing n bytes text e h
followed_form Plain plain missing n bytes text e h = refl

-- bytes come as they are
pub passed_bytes : (s : State) (n : ℕ) (bytes : List ℕ) → s.is_gathering ≡ false → s.waiting ≡ [] → length bytes ≡ n → FitsIn s.form n s.plain
    → Passed s (record s { plain = left_of s.form s.plain n }) bytes
passed_bytes s n bytes e none count h = λ text.
    following_comes s (bytes ++ text) e none
    ∙ followed_form s.form s.plain s.zeros n bytes text count h
    ∙ ap (λ (l : List ℕ). bytes ++ l) (sym (following_comes (record s { plain = left_of s.form s.plain n }) text e none))

over : (form : Form) (plain missing : ℕ) → FitsIn form 1 plain → followed_from form plain missing [] ≡ []
over Unknown plain missing h = refl
over (Ordered order) plain missing h = followed_short (padded_records order) plain missing [] (omega arith)
over Plain plain missing h = refl

-- a text is over where bytes would come as they are
pub passed_end : (s : State) → s.is_gathering ≡ false → s.waiting ≡ [] → FitsIn s.form 1 s.plain → coming s [] ≡ []
passed_end s e none some = following_comes s [] e none ∙ over s.form s.plain s.zeros some

ordered_comes : (s : State) (order : Order) (text : List ℕ) → s.is_gathering ≡ false → s.waiting ≡ [] → s.form ≡ Ordered order → s.plain ≡ 0
    → coming s text ≡ followed_from (Ordered order) 0 s.zeros text
ordered_comes s order text e none form plain =
    following_comes s text e none
    ∙ ap (λ (f : Form). followed_from f s.plain s.zeros text) form
    ∙ ap (λ (n : ℕ). followed_from (Ordered order) n s.zeros text) plain

-- missing are handed out
pub gave_zeros : (s : State) (order : Order) (n : ℕ) → s.is_gathering ≡ false → s.waiting ≡ [] → s.form ≡ Ordered order → s.plain ≡ 0 → n ≤ s.zeros
    → Gave s (record s { zeros = s.zeros - n }) (replicate n 0)
gave_zeros s order n e none form plain h = λ text.
    ordered_comes s order text e none form plain
    ∙ followed_zeros (padded_records order) s.zeros n text h
    ∙ ap (λ (l : List ℕ). replicate n 0 ++ l) (sym (ordered_comes (record s { zeros = s.zeros - n }) order text e none form plain))

-- the next header is gathered
pub settled : (s s' : State) (order : Order) → s.is_gathering ≡ false → s.waiting ≡ [] → s.form ≡ Ordered order → s.plain ≡ 0 → s.zeros ≡ 0
    → s'.is_gathering ≡ true → s'.waiting ≡ [] → s'.form ≡ Ordered order → ComesSame s s'
settled s s' order e none form plain missing e' none' form' = λ text.
    ordered_comes s order text e none form plain
    ∙ ap (λ (n : ℕ). followed_from (Ordered order) 0 n text) missing
    ∙ followed_none (padded_records order) text
    ∙ sym (gathering_comes s' text e' ∙ ap (λ (f : Form). padded_from f (s'.waiting ++ text)) form' ∙ ap (λ (w : List ℕ). padded_records order (w ++ text)) none')

-- a record's header is whole
pub record_whole : (s s' : State) (order : Order) → s.is_gathering ≡ true → s.form ≡ Ordered order → length s.waiting ≡ 16
    → s'.is_gathering ≡ false → s'.form ≡ Ordered order → s'.waiting ≡ whole_head order s.waiting → s'.plain ≡ captured_in order s.waiting → s'.zeros ≡ missing_in order s.waiting
    → ComesSame s s'
record_whole s s' order e form count e' form' waiting plain missing = λ text.
    gathering_comes s text e
    ∙ ap (λ (f : Form). padded_from f (s.waiting ++ text)) form
    ∙ records_behind order s.waiting text count
    ∙ sym (
    giving_comes s' text e'
    ∙ ap (λ (f : Form). s'.waiting ++ followed_from f s'.plain s'.zeros text) form'
    ∙ ap (λ (w : List ℕ). w ++ followed_from (Ordered order) s'.plain s'.zeros text) waiting
    ∙ ap (λ (n : ℕ). whole_head order s.waiting ++ followed_from (Ordered order) n s'.zeros text) plain
    ∙ ap (λ (n : ℕ). whole_head order s.waiting ++ followed_from (Ordered order) (captured_in order s.waiting) n text) missing
    )

file_comes : (form : Option (Order × Fraction)) (w text : List ℕ) → length w ≡ 24 → padded_in form (w ++ text) ≡ w ++ followed_from (form_of form) 0 0 text
file_comes None w text e = refl
file_comes (Some form) w text e = in_long form w text e ∙ ap (λ (l : List ℕ). w ++ l) (sym (followed_none (padded_records form.0) text))

-- the file header is whole
pub file_whole : (s s' : State) → s.is_gathering ≡ true → s.form ≡ Unknown → length s.waiting ≡ 24
    → s'.is_gathering ≡ false → s'.form ≡ form_of (magic_of (number_in Big 0 4 s.waiting)) → s'.waiting ≡ s.waiting → s'.plain ≡ 0 → s'.zeros ≡ 0 → ComesSame s s'
file_whole s s' e form count e' form' waiting plain missing = λ text.
    gathering_comes s text e
    ∙ ap (λ (f : Form). padded_from f (s.waiting ++ text)) form
    ∙ padded_long s.waiting text count
    ∙ file_comes (magic_of (number_in Big 0 4 s.waiting)) s.waiting text count
    ∙ sym (
    giving_comes s' text e'
    ∙ ap (λ (f : Form). s'.waiting ++ followed_from f s'.plain s'.zeros text) form'
    ∙ ap (λ (w : List ℕ). w ++ followed_from (form_of (magic_of (number_in Big 0 4 s.waiting))) s'.plain s'.zeros text) waiting
    ∙ ap (λ (n : ℕ). s.waiting ++ followed_from (form_of (magic_of (number_in Big 0 4 s.waiting))) n s'.zeros text) plain
    ∙ ap (λ (n : ℕ). s.waiting ++ followed_from (form_of (magic_of (number_in Big 0 4 s.waiting))) 0 n text) missing
    )

-- there is no header to gather
pub plain_whole : (s s' : State) → s.is_gathering ≡ true → s.form ≡ Plain → s'.is_gathering ≡ false → s'.form ≡ Plain → s'.waiting ≡ s.waiting → ComesSame s s'
plain_whole s s' e form e' form' waiting = λ text.
    gathering_comes s text e
    ∙ ap (λ (f : Form). padded_from f (s.waiting ++ text)) form
    ∙ sym (
    giving_comes s' text e'
    ∙ ap (λ (f : Form). s'.waiting ++ followed_from f s'.plain s'.zeros text) form'
    ∙ ap (λ (w : List ℕ). w ++ text) waiting
    )

short_comes : (form : Form) (w : List ℕ) → length w < header_len form → padded_from form w ≡ w
short_comes Unknown w h = padded_short w h
short_comes (Ordered order) w h = records_short order w h
short_comes Plain w h = refl

-- a header that isn't whole at the end of a text is as it is
pub header_ends : (s : State) → s.is_gathering ≡ true → length s.waiting < header_len s.form → coming s [] ≡ s.waiting
header_ends s e h = gathering_comes s [] e ∙ ap (padded_from s.form) (append-nil s.waiting) ∙ short_comes s.form s.waiting h

-- what waits at the end of a text
pub waits_last : (s : State) → s.is_gathering ≡ false → s.form ≡ Plain → coming s [] ≡ s.waiting
waits_last s e form = giving_comes s [] e ∙ ap (λ (f : Form). s.waiting ++ followed_from f s.plain s.zeros []) form ∙ append-nil s.waiting
