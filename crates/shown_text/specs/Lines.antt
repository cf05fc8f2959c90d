-- A text as it is shown in a line of a terminal.
use Rattle.std.specs.Prelude.{ℕ, Bool, ◌&&◌, ◌||◌, not, ◌==◌, nat_lt, if◌then◌else◌, List, [], ◌∷◌, ◌++◌, take}
use Rattle.std.specs.Char.Escape.{hex_digit_at}

-- a number from one to another, both among them
abbrev pub is_from_to : ℕ → ℕ → ℕ → Bool
is_from_to low high c = not (nat_lt c low) && not (nat_lt high c)

-- C0, DEL and C1
abbrev pub is_control : ℕ → Bool
is_control c = nat_lt c 0x20 || is_from_to 0x7f 0x9f c

-- line and paragraph separators, and what turns the order of characters round; and the mark of byte order, which isn't seen
abbrev pub turns_text : ℕ → Bool
turns_text c = c == 0x061c || (c == 0x200e || (c == 0x200f || (c == 0xfeff || (is_from_to 0x2028 0x202e c || is_from_to 0x2066 0x2069 c))))

-- a character that a terminal shows where it stands
abbrev pub is_plain : ℕ → Bool
is_plain c = not (is_control c) && not (turns_text c)

-- a backslash, the letter u and four hexadecimal digits
abbrev pub code_text : ℕ → List ℕ
code_text c = 92 ∷ 117 ∷ hex_digit_at 0x1000 c ∷ hex_digit_at 0x100 c ∷ hex_digit_at 0x10 c ∷ hex_digit_at 1 c ∷ []

-- a character, or its code where it isn't plain
abbrev pub plain_char : ℕ → List ℕ
plain_char c = if is_plain c then c ∷ [] else code_text c

abbrev pub plain_chars : List ℕ → List ℕ
plain_chars [] = []
plain_chars (c ∷ cs) = plain_char c ++ plain_chars cs

-- the line of a text
abbrev pub line_of : List ℕ → List ℕ
line_of cs = take 200 (plain_chars cs)
