-- What is written of records is read again.
use Rattle.std.proofs.Common.{◌≡◌, ℕ, suc, ◌+◌, ◌≤◌, ◌<◌, ◌^◌, List, [], ◌∷◌, ◌++◌, All, length, arith, sym, ap, ◌∙◌, refl, subst, append_assoc, drop_at}
use Rattle.std.proofs.lemmas.List.Elements.{All-head, All-tail}
use Rattle.pcap_file.proofs.Heads.{head-append}
use Rattle.std.proofs.lemmas.Grind.{common_steps}
use Rattle.byteorder.specs.Endian.{little_from}
use Rattle.pcap_file.specs.declared.format.Ending.TheVariants.{End}
use Rattle.pcap_file.specs.Format.{Record, captured_len, packet_of, step_of, Gives, max_records, written_form, written_head, written_record, written_record_head}
use Rattle.pcap_file.specs.Text.{Reads}
use Rattle.pcap_file.specs.Writing.{IsWritable, written_records, WrittenIsReadAgain}
use Rattle.pcap_file.proofs.Records.{step-gives, packet-pieces, drop-pieces, number_in-append, packet-same}

module _ (s m n : ℕ) (hs : s < 2 ^ 32) (hm : m < 2 ^ 32) (hn : n < 2 ^ 32) where
  secs-read : little_from 0 4 (written_record_head s m n) ≡ s
  secs-read = omega arith

  micros-read : little_from 4 4 (written_record_head s m n) ≡ m
  micros-read = omega arith

  captured-read : little_from 8 4 (written_record_head s m n) ≡ n
  captured-read = omega arith

  original-read : little_from 12 4 (written_record_head s m n) ≡ n
  original-read = omega arith

-- the next step at a written record
step-written : (given : ℕ) (p : Record) (rest : List ℕ) → given < max_records → IsWritable p
    → step_of written_form given (written_record p.secs p.micros p.bytes ++ rest) ≡ Gives p rest
unfolding written_record
step-written given p rest room w =
    let h = written_record_head p.secs p.micros (length p.bytes) in
    let d = p.bytes in
    let small : length d < 2 ^ 32 = (let k = w.short in omega arith) in
    let len : length h ≡ 16 = refl in
    let cap : captured_len written_form h ≡ length d = captured-read p.secs p.micros (length d) w.secs w.micros small in
    let text : (h ++ d) ++ rest ≡ h ++ (d ++ rest) = append_assoc h d rest in
    let moved : captured_len written_form (h ++ (d ++ rest)) ≡ length d = number_in-append written_form.order 8 4 h (d ++ rest) (omega arith) ∙ cap in
    let fits : 16 + length d ≤ length (h ++ (d ++ rest)) = grind (arith, common_steps, len) in
    let same : d ≡ d = refl in
    let first = packet-same _ _ _ _ _ _ _ _
    (secs-read p.secs p.micros (length d) w.secs w.micros small)
    (micros-read p.secs p.micros (length d) w.secs w.micros small)
    (original-read p.secs p.micros (length d) w.secs w.micros small ∙ sym w.original)
    same in
    ap (step_of written_form given) text
    ∙ step-gives written_form given (h ++ (d ++ rest)) (length d) moved room (let k = w.short in omega arith) fits
    ∙ ap (λ (r : List ℕ). Gives (packet_of written_form (h ++ (d ++ rest))) r) (drop-pieces h d rest (length d) len refl)
    ∙ ap (λ (r : Record). Gives r rest) (packet-pieces written_form h d rest len (sym cap) ∙ first)

all-read : (given : ℕ) (ps : List Record) → given + length ps ≤ max_records → All IsWritable ps → Reads written_form given (written_records ps) ps End
all-read given [] room w = refl
all-read given (p ∷ ps) room w =
    (written_records ps, step-written given p (written_records ps) (omega arith) (All-head IsWritable p ps w), all-read (suc given) ps (omega arith) (All-tail IsWritable p ps w))

pub read_again : WrittenIsReadAgain
read_again ps room w =
    let rest = written_records ps in
    (head-append written_head rest refl, subst (λ (t : List ℕ). Reads written_form 0 t ps End) (sym (drop_at written_head rest 24 refl)) (all-read 0 ps (omega arith) w))
