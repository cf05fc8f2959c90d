-- What is read of a padded capture.
use Rattle.std.proofs.Common.{◌≡◌, ℕ, suc, ◌+◌, ◌-◌, ◌≤◌, ◌<◌, Bool, true, false, List, [], ◌∷◌, ◌++◌, Option, Some, None, Ok, Err, length, take, drop, slice_range, replicate, refl, sym, ap, ◌∙◌, arith, inl, inr, ◌⊎◌, ⊎_elim, length-append, length-drop, length-take-le, append_assoc, take-append-drop, drop_at}
use Rattle.std.specs.Prelude.{nat_lt, if◌then◌else◌, ◌&&◌, not, ◌==◌}
use Rattle.std.proofs.lemmas.List.{drop-drop, length-replicate}
use Rattle.std.proofs.lemmas.Bool.Decides.{nat_tests}
use Rattle.ip_headers.specs.declared.Link.{Link}
use Rattle.ip_headers.specs.Ipv4.{link_of}
use Rattle.pcap_file.specs.declared.format.Order.{Order}
use Rattle.pcap_file.specs.declared.format.Order.TheVariants.{Big}
use Rattle.pcap_file.specs.declared.format.Fraction.{Fraction}
use Rattle.pcap_file.specs.declared.format.Head.{Head}
use Rattle.pcap_file.specs.declared.format.Ending.{Ending}
use Rattle.pcap_file.specs.declared.format.Ending.TheVariants.{End, Cut, Failed}
use Rattle.pcap_file.specs.declared.format.PcapFault.TheVariants.{ShortHeader, BadMagic, BadVersion, BadLink, TooLong, Read, Write, Memory}
use Rattle.pcap_file.specs.Format.{Record, Continuation, Gives, Ends, Cuts, IsTooLong, step_of, captured_len, packet_of, number_in, micros_of, max_records, max_captured, magic_of, linked, versioned, head_answer}
use Rattle.pcap_file.specs.Reading.{Stops}
use Rattle.pcap_file.specs.Text.{IsOfText}
use Rattle.pcap_file.proofs.Records.{number_in-append, step-gives, step-cuts, packet_from, drop-pieces, packet-pieces}
use Rattle.pcap_file.proofs.Heads.{head-append}
use Rattle.padded_capture.specs.Padding.{captured_in, original_in, is_cut, missing, missing_in, whole_head, followed, padded_records, padded_in, padded}
use Rattle.padded_capture.specs.Playing.{whole_record, HeaderStays, RecordsAreWhole}
use Rattle.padded_capture.proofs.Records.{records_short, records_long, followed_short, followed_long}
use Rattle.padded_capture.proofs.Numbers.{mended_length, mended_front, mended_captured, mended_original}

reaches : (a b : ℕ) → (a < b) ⊎ (b ≤ a)
reaches a b = grind arith

-- a step of the padded records
abbrev lifted : Order → Continuation → Continuation
lifted order (Gives p rest) = Gives (whole_record p) (padded_records order rest)
lifted order Ends = Ends
lifted order Cuts = Cuts
lifted order IsTooLong = IsTooLong

ends : (head : Head) (given : ℕ) (text : List ℕ) → length text ≡ 0 → step_of head given text ≡ Ends
ends head given text none = grind (arith, nat_tests)

cuts_front : (head : Head) (given : ℕ) (text : List ℕ) → 0 < length text → length text < 16 → step_of head given text ≡ Cuts
cuts_front head given text some short = grind (arith, nat_tests)

too_long : (head : Head) (given : ℕ) (text : List ℕ) (c : ℕ) → captured_len head text ≡ c → 16 ≤ length text → (max_records ≤ given) ⊎ (max_captured < c) → step_of head given text ≡ IsTooLong
too_long head given text c e long (inl many) = grind (arith, nat_tests)
too_long head given text c e long (inr large) = grind (arith, nat_tests)

both : (order : Order) (a b : Continuation) (s : Continuation) → a ≡ s → b ≡ s → lifted order s ≡ s → a ≡ lifted order b
both order a b s p q e = p ∙ sym e ∙ ap (lifted order) (sym q)

short_step : (head : Head) (given : ℕ) (text : List ℕ) → length text < 16 → step_of head given (padded_records head.order text) ≡ lifted head.order (step_of head given text)
short_step head given text short =
    let same = ap (step_of head given) (records_short head.order text short) in
    ⊎_elim
    (λ (none : length text < 1). let e = ends head given text (omega arith) in both head.order _ _ Ends (same ∙ e) e refl)
    (λ (some : 1 ≤ length text). let e = cuts_front head given text (omega arith) short in both head.order _ _ Cuts (same ∙ e) e refl)
    (reaches (length text) 1)

-- how long a record is that was raised
abbrev raised : Order → List ℕ → ℕ
raised order text = if is_cut order text then original_in order text else captured_in order text

raised_least : (order : Order) (text : List ℕ) → captured_in order text ≤ raised order text
raised_least order text = grind (arith, nat_tests)

raised_most : (order : Order) (text : List ℕ) → captured_in order text ≤ max_captured → raised order text ≤ max_captured
raised_most order text h = grind (arith, nat_tests)

raised_large : (order : Order) (text : List ℕ) → max_captured < captured_in order text → max_captured < raised order text
raised_large order text h = grind (arith, nat_tests)

raised_is : (order : Order) (text : List ℕ) → captured_in order text + missing_in order text ≡ raised order text
raised_is order text = grind (arith, nat_tests)

rest_of : Order → List ℕ → List ℕ
rest_of order text = followed (padded_records order) (captured_in order text) (missing_in order text) (drop 16 text)

captured_behind : (order : Order) (text rest : List ℕ) → 16 ≤ length text → captured_in order (whole_head order text ++ rest) ≡ raised order text
captured_behind order text rest long =
    number_in-append order 8 4 (whole_head order text) rest (omega (arith, mended_length (is_cut order text) text long)) ∙ mended_captured order (is_cut order text) text long

large_step : (head : Head) (given : ℕ) (text : List ℕ) → 16 ≤ length text → (max_records ≤ given) ⊎ (max_captured < captured_in head.order text)
    → step_of head given (padded_records head.order text) ≡ lifted head.order (step_of head given text)
large_step head given text long why =
    let order = head.order in
    let rest = followed (padded_records order) (captured_in order text) (missing_in order text) (drop 16 text) in
    let all = whole_head order text ++ rest in
    let whole : 16 ≤ length all = omega (arith, length-append (whole_head order text) rest, mended_length (is_cut order text) text long) in
    let why' : (max_records ≤ given) ⊎ (max_captured < raised order text) = ⊎_elim (λ (many : max_records ≤ given). inl many) (λ (large : max_captured < captured_in order text). inr (raised_large order text large)) why in
    both order _ _ IsTooLong
    (ap (step_of head given) (records_long order text long) ∙ too_long head given all (raised order text) (captured_behind order text rest long) whole why')
    (too_long head given text (captured_in order text) refl long why) refl

cut_step : (head : Head) (given : ℕ) (text : List ℕ) → 16 ≤ length text → given < max_records → captured_in head.order text ≤ max_captured → length text < 16 + captured_in head.order text
    → step_of head given (padded_records head.order text) ≡ lifted head.order (step_of head given text)
cut_step head given text long room small short =
    let order = head.order in
    let c = captured_in order text in
    let h = whole_head order text in
    let left = drop 16 text in
    let few : length left < c = omega (arith, length-drop 16 text) in
    let is : padded_records order text ≡ h ++ left = records_long order text long ∙ ap (λ (l : List ℕ). h ++ l) (followed_short (padded_records order) c (missing_in order text) left few) in
    let count : length (h ++ left) ≡ length text = omega (arith, length-append h left, mended_length (is_cut order text) text long, length-drop 16 text) in
    both order _ _ Cuts
    (ap (step_of head given) is ∙ step-cuts head given (h ++ left) (raised order text) (captured_behind order text left long) room (raised_most order text small) (omega arith) (omega (arith, raised_least order text)))
    (step-cuts head given text c refl room small long short) refl

record_same : (head : Head) (text d bytes : List ℕ) → 16 ≤ length text → d ≡ bytes ++ replicate (missing_in head.order text) 0 → slice_range text 16 (16 + captured_in head.order text) ≡ bytes
    → length bytes ≡ captured_in head.order text → packet_from head (whole_head head.order text) d ≡ whole_record (packet_of head text)
record_same head text d bytes long e slice count =
    let order = head.order in
    let cut = is_cut order text in
    let original = original_in order text in
    let secs = mended_front order cut 0 text long (omega arith) in
    let micros = ap (micros_of head.fraction) (mended_front order cut 4 text long (omega arith)) in
    let last = mended_original order cut text long in
    let inside : slice_range text 16 (16 + captured_in order text) ++ replicate (missing (nat_lt (length (slice_range text 16 (16 + captured_in order text))) original && not (nat_lt max_captured original)) (length (slice_range text 16 (16 + captured_in order text))) original) 0 ≡ d =
    ap (λ (l : List ℕ). l ++ replicate (missing (nat_lt (length l) original && not (nat_lt max_captured original)) (length l) original) 0) slice
    ∙ ap (λ (n : ℕ). bytes ++ replicate (missing (nat_lt n original && not (nat_lt max_captured original)) n original) 0) count
    ∙ sym e in
    ap (λ (n : ℕ). record { secs = n; micros = micros_of head.fraction (number_in order 4 4 (whole_head order text)); original = number_in order 12 4 (whole_head order text); bytes = d }) secs
    ∙ ap (λ (n : ℕ). record { secs = number_in order 0 4 text; micros = n; original = number_in order 12 4 (whole_head order text); bytes = d }) micros
    ∙ ap (λ (n : ℕ). record { secs = number_in order 0 4 text; micros = micros_of head.fraction (number_in order 4 4 text); original = n; bytes = d }) last
    ∙ ap (λ (l : List ℕ). record { secs = number_in order 0 4 text; micros = micros_of head.fraction (number_in order 4 4 text); original = original; bytes = l }) (sym inside)

whole_step : (head : Head) (given : ℕ) (text : List ℕ) → 16 ≤ length text → given < max_records → captured_in head.order text ≤ max_captured → 16 + captured_in head.order text ≤ length text
    → step_of head given (padded_records head.order text) ≡ lifted head.order (step_of head given text)
whole_step head given text long room small fits =
    let order = head.order in
    let c = captured_in order text in
    let m = missing_in order text in
    let h = whole_head order text in
    let left = drop 16 text in
    let bytes = take c left in
    let d = bytes ++ replicate m 0 in
    let rest = padded_records order (drop c left) in
    let within : c ≤ length left = omega (arith, length-drop 16 text) in
    let count : length bytes ≡ c = length-take-le c left within in
    let size : length d ≡ raised order text = omega (arith, length-append bytes (replicate m 0), length-replicate {A = ℕ} m 0, count, raised_is order text) in
    let front : length h ≡ 16 = mended_length (is_cut order text) text long in
    let is : padded_records order text ≡ h ++ (d ++ rest) =
    records_long order text long ∙ ap (λ (l : List ℕ). h ++ l) (followed_long (padded_records order) c m left within ∙ sym (append_assoc bytes (replicate m 0) rest)) in
    let all : 16 + raised order text ≤ length (h ++ (d ++ rest)) = omega (arith, length-append h (d ++ rest), length-append d rest, front, size) in
    let slice : slice_range text 16 (16 + c) ≡ bytes = ap (λ (n : ℕ). take n left) (let z : (16 + c) - 16 ≡ c = omega arith in z) in
    let told : length d ≡ captured_len head h = size ∙ sym (mended_captured order (is_cut order text) text long) in
    let second : lifted order (step_of head given text) ≡ Gives (whole_record (packet_of head text)) (padded_records order (drop (16 + c) text)) = ap (lifted order) (step-gives head given text c refl room small fits) in
    ap (step_of head given) is
    ∙ step-gives head given (h ++ (d ++ rest)) (raised order text) (captured_behind order text (d ++ rest) long) room (raised_most order text small) all
    ∙ ap (λ (r : List ℕ). Gives (packet_of head (h ++ (d ++ rest))) r) (drop-pieces h d rest (raised order text) front size ∙ ap (padded_records order) (drop-drop c 16 text))
    ∙ ap (λ (p : Record). Gives p (padded_records order (drop (16 + c) text))) (packet-pieces head h d rest front told ∙ record_same head text d bytes long refl slice count)
    ∙ sym second

step_padded : (head : Head) (given : ℕ) (text : List ℕ) → step_of head given (padded_records head.order text) ≡ lifted head.order (step_of head given text)
step_padded head given text =
    let c = captured_in head.order text in
    ⊎_elim (λ (short : length text < 16). short_step head given text short)
    (λ (long : 16 ≤ length text).
    ⊎_elim
    (λ (room : given < max_records).
    ⊎_elim
    (λ (large : max_captured < c). large_step head given text long (inr large))
    (λ (small : c ≤ max_captured).
    ⊎_elim (λ (cut : length text < 16 + c). cut_step head given text long room small cut) (λ (fits : 16 + c ≤ length text). whole_step head given text long room small fits) (reaches (length text) (16 + c)))
    (reaches max_captured c))
    (λ (many : max_records ≤ given). large_step head given text long (inl many))
    (reaches given max_records))
    (reaches (length text) 16)

stops_lifted : (order : Order) (ending : Ending) (s t : Continuation) → IsOfText ending → t ≡ lifted order s → Stops ending s → Stops ending t
stops_lifted order End s t of e h = e ∙ ap (lifted order) h
stops_lifted order Cut s t of e h = e ∙ ap (lifted order) h
stops_lifted order (Failed TooLong) s t of e h = e ∙ ap (lifted order) h
stops_lifted order (Failed ShortHeader) s t of e h = absurd of
stops_lifted order (Failed BadMagic) s t of e h = absurd of
stops_lifted order (Failed BadVersion) s t of e h = absurd of
stops_lifted order (Failed BadLink) s t of e h = absurd of
stops_lifted order (Failed Read) s t of e h = absurd of
stops_lifted order (Failed Write) s t of e h = absurd of
stops_lifted order (Failed Memory) s t of e h = absurd of

pub records_whole : RecordsAreWhole
records_whole head given text [] ending of h = stops_lifted head.order ending (step_of head given text) _ of (step_padded head given text) h
records_whole head given text (p ∷ ps) ending of h =
    (padded_records head.order h.0, step_padded head given text ∙ ap (lifted head.order) h.1, records_whole head (suc given) h.0 ps ending of h.2)

-- ---- the header

linked_order : (order : Order) (fraction : Fraction) (link : Option Link) (head : Head) → linked order fraction link ≡ Ok head → order ≡ head.order
linked_order order fraction None head h = absurd cc
linked_order order fraction (Some link) head h = let same : record { order = order; fraction = fraction; link = link } ≡ head = cc in ap (λ (x : Head). x.order) same

tested_order : (b : Bool) (order : Order) (fraction : Fraction) (link : Option Link) (head : Head) → (if b then linked order fraction link else Err BadVersion) ≡ Ok head → order ≡ head.order
tested_order true order fraction link head h = linked_order order fraction link head h
tested_order false order fraction link head h = absurd cc

versioned_order : (form : Option (Order × Fraction)) (text : List ℕ) (head : Head) → versioned form text ≡ Ok head → (f : Order × Fraction) × (form ≡ Some f) × (f.0 ≡ head.order)
versioned_order None text head h = absurd cc
versioned_order (Some form) text head h =
    (form, refl, tested_order (number_in form.0 4 2 text == 2 && number_in form.0 6 2 text == 4) form.0 form.1 (link_of (number_in form.0 20 4 text)) head h)

short_answer : (text : List ℕ) → length text < 24 → head_answer text ≡ Err ShortHeader
short_answer text h = grind (arith, nat_tests)

long_answer : (text : List ℕ) → 24 ≤ length text → head_answer text ≡ versioned (magic_of (number_in Big 0 4 text)) text
long_answer text h = grind (arith, nat_tests)

in_whole : (form : Option (Order × Fraction)) (f : Order × Fraction) (text : List ℕ) → form ≡ Some f → 24 ≤ length text → padded_in form text ≡ take 24 text ++ padded_records f.0 (drop 24 text)
in_whole form f text e long =
    let first : padded_in (Some f) text ≡ take 24 text ++ padded_records f.0 (drop 24 text) = grind (arith, nat_tests) in
    ap (λ (o : Option (Order × Fraction)). padded_in o text) e ∙ first

padded_whole : (head : Head) (text : List ℕ) → head_answer text ≡ Ok head → 24 ≤ length text → padded text ≡ take 24 text ++ padded_records head.order (drop 24 text)
unfolding padded
padded_whole head text h long =
    let found = versioned_order (magic_of (number_in Big 0 4 text)) text head (sym (long_answer text long) ∙ h) in
    in_whole (magic_of (number_in Big 0 4 text)) found.0 text found.1 long ∙ ap (λ (o : Order). take 24 text ++ padded_records o (drop 24 text)) found.2

header_kept : (head : Head) (text : List ℕ) → head_answer text ≡ Ok head → 24 ≤ length text
    → (head_answer (padded text) ≡ Ok head) × (drop 24 (padded text) ≡ padded_records head.order (drop 24 text))
header_kept head text h long =
    let front = take 24 text in
    let count : length front ≡ 24 = length-take-le 24 text long in
    let rest = padded_records head.order (drop 24 text) in
    let is = padded_whole head text h long in (
      ap head_answer is ∙ head-append front rest count ∙ sym (head-append front (drop 24 text) count) ∙ ap head_answer (take-append-drop 24 text) ∙ h,
      ap (drop 24) is ∙ drop_at front rest 24 count,
    )

pub header_stays : HeaderStays
header_stays head text h =
    ⊎_elim (λ (short : length text < 24). absurd (let e = sym (short_answer text short) ∙ h in cc)) (λ (long : 24 ≤ length text). header_kept head text h long) (reaches (length text) 24)
