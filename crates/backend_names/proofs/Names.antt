-- The fields of a name.
use Rattle.std.proofs.Common.{◌≡◌, ℕ, zero, suc, ◌-◌, ◌<◌, ◌≤◌, refl, ◌∙◌, ap, arith, Bool, true, false, ◌&&◌, nat_lt, List, [], ◌∷◌, ◌++◌, length, drop, replicate, get_or, Result, Ok, Err, rules, length-append}
use Rattle.std.specs.List.{list_all}
use Rattle.std.specs.Char.{is_ascii_alphanumeric}
use Rattle.std.specs.Prelude.{MatchResult}
use Rattle.std.specs.Result.{IsOk}
use Rattle.std.specs.Str.{IsAscii, IsUtf8}
use Rattle.std.proofs.lemmas.Str.{IsUtf8-from_ascii}
use Rattle.std.proofs.lemmas.List.{length-replicate, drop-replicate}
use Rattle.std.proofs.Math.Seq.{drop-append_seam, take-append_seam}
use Rattle.std.proofs.lemmas.Bool.{false≢true}
use Rattle.std.proofs.lemmas.Bool.Decides.{nat_tests}
use Rattle.backend_names.specs.NameText.{is_name, is_name_byte}
use Rattle.backend_names.specs.NameFields.{IsNameField}

parts : (a b c : Bool) → ((a && b) && c) ≡ true → b ≡ true
parts true true c h = refl
parts true false c h = absurd (false≢true h)
parts false b c h = absurd (false≢true h)

below_from : (a b : ℕ) → nat_lt a b ≡ true → a < b
below_from a b h = grind (arith, nat_tests)

pub name_long : (text : List ℕ) → is_name text ≡ true → length text ≤ 32
name_long [] h = absurd (false≢true h)
name_long (first ∷ rest) h = let b = below_from (length rest) 32 (parts (is_ascii_alphanumeric first) (nat_lt (length rest) 32) (list_all is_name_byte rest) h) in omega arith

pub name_fields : (text bytes : List ℕ) → bytes ≡ text → is_name text ≡ true → IsNameField (record { bytes = bytes ++ drop (length text) (replicate 32 0); len = length text })
name_fields text bytes same named =
    let long : length text ≤ 32 = name_long text named in
    let zeros : drop {A = ℕ} (length text) (replicate 32 0) ≡ replicate (32 - length text) 0 = drop-replicate (length text) 32 0 in
    rw (same, zeros) (record {
      length = omega (arith, length-append text (replicate (32 - length text) 0), length-replicate {A = ℕ} (32 - length text) 0);
      fits = long;
      rest = drop-append_seam text (replicate (32 - length text) 0);
      named = ap is_name (take-append_seam text (replicate (32 - length text) 0)) ∙ named;
    })

-- a name is ASCII, so it is text
byte_low : (byte : ℕ) → is_name_byte byte ≡ true → byte < 128
byte_low byte h = grind (arith, nat_tests)

first_low : (byte : ℕ) → is_ascii_alphanumeric byte ≡ true → byte < 128
first_low byte h = grind (arith, nat_tests)

and_first : (a b : Bool) → (a && b) ≡ true → a ≡ true
and_first true b h = refl
and_first false b h = absurd (false≢true h)

and_second : (a b : Bool) → (a && b) ≡ true → b ≡ true
and_second true b h = h
and_second false b h = absurd (false≢true h)

low_at : (rest : List ℕ) → list_all is_name_byte rest ≡ true → (i : ℕ) → get_or rest i 0 < 128
low_at [] h i = omega arith
low_at (x ∷ xs) h zero = byte_low x (and_first (is_name_byte x) (list_all is_name_byte xs) h)
low_at (x ∷ xs) h (suc i) = low_at xs (and_second (is_name_byte x) (list_all is_name_byte xs) h) i

pub name_ascii : (text : List ℕ) → is_name text ≡ true → IsAscii text
name_ascii [] h i = omega arith
name_ascii (first ∷ rest) h zero = first_low first (and_first (is_ascii_alphanumeric first) (nat_lt (length rest) 32) (and_first (is_ascii_alphanumeric first && nat_lt (length rest) 32) (list_all is_name_byte rest) h))
name_ascii (first ∷ rest) h (suc i) = low_at rest (and_second (is_ascii_alphanumeric first && nat_lt (length rest) 32) (list_all is_name_byte rest) h) i

pub name_utf8 : (text : List ℕ) → is_name text ≡ true → IsUtf8 text
name_utf8 text h = IsUtf8-from_ascii text (name_ascii text h)

pub ok_from : {A E : Type 0} (P : A → Type 0) (Q : E → Type 0) (r : Result A E) → MatchResult r P Q → ((e : E) → Q e → ⊥) → IsOk r
ok_from P Q (Ok x) h none = search rules
ok_from P Q (Err e) h none = absurd (none e h)
