-- A text that is written out is ASCII, as a test of its bytes shows.
use Rattle.std.proofs.Common.{◌≡◌, ℕ, ◌<◌, arith, refl, Bool, true, false, ◌&&◌, nat_lt, List, [], ◌∷◌}
use Rattle.std.specs.List.{list_all}
use Rattle.std.specs.Str.{IsAscii}
use Rattle.std.proofs.lemmas.Str.Ascii.{IsAscii-nil, IsAscii-cons}
use Rattle.std.proofs.lemmas.Bool.{false≢true}
use Rattle.std.proofs.lemmas.Bool.Decides.{nat_tests}

abbrev pub is_low : ℕ → Bool
is_low byte = nat_lt byte 128

below_from : (byte : ℕ) → is_low byte ≡ true → byte < 128
below_from byte h = grind (arith, nat_tests)

and_first : (a b : Bool) → (a && b) ≡ true → a ≡ true
and_first true b h = refl
and_first false b h = absurd (false≢true h)

and_second : (a b : Bool) → (a && b) ≡ true → b ≡ true
and_second true b h = h
and_second false b h = absurd (false≢true h)

pub ascii_from_test : (bytes : List ℕ) → list_all is_low bytes ≡ true → IsAscii bytes
ascii_from_test [] h = IsAscii-nil
ascii_from_test (x ∷ xs) h = IsAscii-cons x xs (below_from x (and_first (is_low x) (list_all is_low xs) h)) (ascii_from_test xs (and_second (is_low x) (list_all is_low xs) h))
