-- Records whose bytes lie in blocks.
use Rattle.std.proofs.Common.{◌≡◌, ℕ, List, [], ◌∷◌, ◌++◌, length, map, arith, ap, ◌∙◌, refl, Ok, inr}
use Rattle.std.specs.Prelude.{All}
use Rattle.std.proofs.lemmas.List.{map_push}
use Rattle.std.proofs.lemmas.List.Elements.{All-head, All-tail}
use Rattle.pcap_file.specs.declared.format.Head.{Head}
use Rattle.pcap_file.specs.declared.format.PcapFault.TheVariants.{Memory}
use Rattle.pcap_file.specs.Device.{Tape, Unfailed}
use Rattle.pcap_file.specs.Reading.{Gave}
use Rattle.pcap_file.specs.Text.{Passed, AllRefused}
use Rattle.pcap_file.specs.Format.{Record}
use Rattle.pcap_file.proofs.Texts.{passed-push}
use Rattle.run_records.specs.declared.records.Entry.{Entry}
use Rattle.run_records.specs.Store.{bytes_at, Keeps, record_at, IsHeld}

-- records whose bytes are kept are the same
pub same_records : (bs bs' : List (List ℕ)) (es : List Entry) → Keeps bs bs' → All (IsHeld bs) es → map (record_at bs') es ≡ map (record_at bs) es
same_records bs bs' [] k h = refl
same_records bs bs' (e ∷ es) k h =
    ap (λ (l : List ℕ). record { secs = e.secs; micros = e.micros; original = e.original; bytes = l } ∷ map (record_at bs') es) (k e.place (All-head (IsHeld bs) e es h)).1
    ∙ ap (λ (l : List Record). record_at bs e ∷ l) (same_records bs bs' es k (All-tail (IsHeld bs) e es h))

-- one record more
pub one_more : (bs bs' : List (List ℕ)) (es : List Entry) (e : Entry) (more : List ℕ) → Keeps bs bs' → All (IsHeld bs) es → bytes_at bs' e.place ≡ more
    → map (record_at bs') (es ++ e ∷ []) ≡ map (record_at bs) es ++ record { secs = e.secs; micros = e.micros; original = e.original; bytes = more } ∷ []
one_more bs bs' es e more k h is =
    map_push (record_at bs') es e
    ∙ ap (λ (l : List Record). l ++ record_at bs' e ∷ []) (same_records bs bs' es k h)
    ∙ ap (λ (l : List ℕ). map (record_at bs) es ++ record { secs = e.secs; micros = e.micros; original = e.original; bytes = l } ∷ []) is

-- behind a record that was read, memory was refused
pub refused_behind : (head : Head) (n : ℕ) (a b c : Tape) (ps : List Record) (p : Record) → n ≡ length ps → Passed head a.bytes ps b.bytes → Unfailed a b → Unfailed b c → Gave head n b.bytes c.bytes (Ok p) → AllRefused head a c Memory
refused_behind head n a b c ps p e passed u v gave =
    inr (refl, (v.0 ∙ u.0, omega (arith, u.1, v.1)), (ps ++ p ∷ [], passed-push head n a.bytes b.bytes c.bytes ps p e passed gave))
