-- A line that is written in pieces breaks off in one of them.
use Rattle.std.proofs.Common.{◌≡◌, ℕ, ◌+◌, List, [], ◌++◌, length, take, drop, arith, sym, ap, ◌∙◌, ◌⊎◌, inl, inr, refl, append_assoc, length-append, length-drop, take-append-drop, append-nil}
use Rattle.std.specs.Io.KnownBytes.{Appends}
use Rattle.std.proofs.KnownBytes.{Appends-trans, Appends-nil}
use Rattle.pcap_file.specs.Device.{Tape, Unfailed, IsWorn, GivenUp, PutRefused}
use Rattle.command_faults.specs.Faults.{BreaksLine}

gave_up : (n : ℕ) (a b c : Tape) → Unfailed a b → GivenUp n b c → (c.failures ≡ a.failures + 1) ⊎ IsWorn a c
gave_up n a b c u (inl f) = inl (omega (arith, u.0, f.0))
gave_up n a b c u (inr f) = inr (omega (arith, u.1, f.2))

pub breaks_at : (line before piece after : List ℕ) (a b c : Tape) → line ≡ before ++ (piece ++ after) → Appends a.bytes b.bytes before × Unfailed a b → PutRefused piece b c → BreaksLine line a c
breaks_at line before piece after a b c e h p =
    let n = p.1.0 in
    let whole : piece ++ after ≡ take n piece ++ (drop n piece ++ after) = ap (λ (l : List ℕ). l ++ after) (sym (take-append-drop n piece)) ∙ append_assoc (take n piece) (drop n piece) after in
    record {
      first = before ++ take n piece;
      rest = drop n piece ++ after;
      line_is = e ∙ ap (λ (l : List ℕ). before ++ l) whole ∙ sym (append_assoc before (take n piece) (drop n piece ++ after));
      some = omega (arith, p.1.1, length-append (drop n piece) after, length-drop n piece);
      written = Appends-trans a.bytes b.bytes c.bytes before (take n piece) h.0 p.1.2;
      given_up = gave_up (length piece) a b c h.1 p.0;
    }

pub nothing_yet : (a : Tape) → Appends a.bytes a.bytes [] × Unfailed a a
nothing_yet a = (Appends-nil a.bytes, (refl, omega arith))

pub one_more : (a b c : Tape) (xs ys : List ℕ) → Appends a.bytes b.bytes xs × Unfailed a b → Appends b.bytes c.bytes ys × Unfailed b c → Appends a.bytes c.bytes (xs ++ ys) × Unfailed a c
one_more a b c xs ys p q = (Appends-trans a.bytes b.bytes c.bytes xs ys p.0 q.0, (q.1.0 ∙ p.1.0, omega (arith, p.1.1, q.1.1)))

pub at_word : (f name word number end : List ℕ) → name ≡ word ++ number → f ++ (name ++ end) ≡ f ++ (word ++ (number ++ end))
at_word f name word number end e = ap (λ (l : List ℕ). f ++ (l ++ end)) e ∙ ap (λ (l : List ℕ). f ++ l) (append_assoc word number end)

pub at_number : (f name word number end : List ℕ) → name ≡ word ++ number → f ++ (name ++ end) ≡ (f ++ word) ++ (number ++ end)
at_number f name word number end e = at_word f name word number end e ∙ sym (append_assoc f word (number ++ end))

pub at_end : (f name word number end : List ℕ) → name ≡ word ++ number → f ++ (name ++ end) ≡ ((f ++ word) ++ number) ++ (end ++ [])
at_end f name word number end e = at_number f name word number end e ∙ sym (append_assoc (f ++ word) number end) ∙ ap (λ (l : List ℕ). ((f ++ word) ++ number) ++ l) (sym (append-nil end))
