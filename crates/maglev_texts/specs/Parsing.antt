-- What numbers, addresses and members are, as text.
use Rattle.std.specs.Prelude.{ℕ, ◌+◌, ◌-◌, ◌*◌, ◌&&◌, ◌==◌, nat_le, nat_lt, Bool, true, false, if◌then◌else◌, List, [], ◌∷◌, ◌++◌, length, Option, Some}
use Rattle.std.specs.Prelude.{None, option_and_then, option_map, codes}
use Rattle.std.specs.Str.{bytes_eq}
use Rattle.backend_names.specs.NameText.{is_name}
use Rattle.pool_versions.specs.declared.backend.Member.{Member}
use Rattle.maglev_texts.specs.declared.weights.WeighedName.{WeighedName}

-- the digits of a number, of at most a limit, after those with a value
abbrev pub digits_after : ℕ → ℕ → List ℕ → Option ℕ
digits_after limit n [] = Some n
digits_after limit n (b ∷ bs) =
    if ((nat_le 48 b && nat_le b 57) && nat_le (n * 10 + (b - 48)) limit) then digits_after limit (n * 10 + (b - 48)) bs else None

-- a decimal number of at most a limit, without sign or leading zeros
abbrev pub decimal_of : ℕ → List ℕ → Option ℕ
decimal_of limit [] = None
decimal_of limit (b ∷ bs) = if (b == 48) && nat_lt 0 (length bs) then None else digits_after limit 0 (b ∷ bs)

-- the pieces between a byte's places, where the first piece has begun
abbrev pub pieces_after : ℕ → List ℕ → List ℕ → List (List ℕ)
pieces_after c begun [] = begun ∷ []
pieces_after c begun (b ∷ bs) = if b == c then begun ∷ pieces_after c [] bs else pieces_after c (begun ++ b ∷ []) bs

-- the pieces between a byte's places
abbrev pub pieces : ℕ → List ℕ → List (List ℕ)
pieces c text = pieces_after c [] text

-- the address of four numbers
abbrev pub address_of_pieces : List (List ℕ) → Option ℕ
address_of_pieces (a ∷ b ∷ c ∷ d ∷ []) =
    option_and_then (λ w. option_and_then (λ x. option_and_then (λ y. option_map (λ z. ((w * 256 + x) * 256 + y) * 256 + z) (decimal_of 255 d))
    (decimal_of 255 c)) (decimal_of 255 b)) (decimal_of 255 a)
address_of_pieces _ = None

-- an address: four numbers from 0 to 255 joined by dots
abbrev pub address_of : List ℕ → Option ℕ
address_of text = address_of_pieces (pieces 46 text)

-- a member of a name, an address and whether it is up, of the weight of one that counts once; it doesn't drain
abbrev pub member_with : List ℕ → Bool → ℕ → Member
member_with name up addr = record { backend = record { name = name; addr = addr }; up = up; draining = false; weight = 1 }

-- the member of a name at the address that a text is
abbrev pub member_at_address : List ℕ → Bool → List ℕ → Option Member
member_at_address name up text = option_map (member_with name up) (address_of text)

-- `ADDRESS`, or `ADDRESS/down`
abbrev pub member_at : List ℕ → List (List ℕ) → Option Member
member_at name (address ∷ []) = member_at_address name true address
member_at name (address ∷ word ∷ []) = if bytes_eq word (codes "down") then member_at_address name false address else None
member_at name _ = None

-- the member of a name at a place
abbrev pub member_named : List ℕ → List ℕ → Option Member
member_named name place = if is_name name then member_at name (pieces 47 place) else None

abbrev pub member_of_pieces : List (List ℕ) → Option Member
member_of_pieces (name ∷ place ∷ []) = member_named name place
member_of_pieces _ = None

-- a member word: `NAME@ADDRESS`, or `NAME@ADDRESS/down`
abbrev pub member_of : List ℕ → Option Member
member_of text = member_of_pieces (pieces 64 text)

-- what is before the first place of a byte, the whole text where there is none
abbrev pub before_first : ℕ → List ℕ → List ℕ
before_first c [] = []
before_first c (b ∷ bs) = if b == c then [] else b ∷ before_first c bs

-- what is behind it, if there is one
abbrev pub behind_first : ℕ → List ℕ → Option (List ℕ)
behind_first c [] = None
behind_first c (b ∷ bs) = if b == c then Some bs else behind_first c bs

-- what is before a word's star, the whole word where there is none
abbrev pub before_star : List ℕ → List ℕ
before_star word = before_first 42 word

-- what is after it, if there is one
abbrev pub behind_star : List ℕ → Option (List ℕ)
behind_star word = behind_first 42 word

-- a weight: a number from 1 to 16
abbrev pub weight_of : List ℕ → Option ℕ
weight_of text = option_and_then (λ n. if nat_lt 0 n then Some n else None) (decimal_of 16 text)

-- the weight that a word has after its star, 1 where there is none
abbrev pub weight_behind : Option (List ℕ) → Option ℕ
weight_behind None = Some 1
weight_behind (Some text) = weight_of text

abbrev pub weighed_as : List ℕ → ℕ → WeighedName
weighed_as name weight = record { name = name; weight = weight }

-- a name that may bear a weight: `NAME`, or `NAME*W`
abbrev pub weighed_name_of : List ℕ → Option WeighedName
weighed_name_of word = if is_name (before_star word) then option_map (weighed_as (before_star word)) (weight_behind (behind_star word)) else None

-- a member with a weight, up or down
abbrev pub weighing : Member → Bool → ℕ → Member
weighing m up weight = record { backend = m.backend; up = up; draining = false; weight = weight }

-- after a member's star: `W`, or `W/down`
abbrev pub weighed_at : Member → List (List ℕ) → Option Member
weighed_at m (weight ∷ []) = option_map (weighing m true) (weight_of weight)
weighed_at m (weight ∷ word ∷ []) = if bytes_eq word (codes "down") then option_map (weighing m false) (weight_of weight) else None
weighed_at m _ = None

abbrev pub weighed_behind : List ℕ → Member → Option Member
weighed_behind tail m = if m.up then weighed_at m (pieces 47 tail) else None

-- a member word, or one with something after its star
abbrev pub weighed_member : List ℕ → Option (List ℕ) → Option Member
weighed_member word None = member_of word
weighed_member word (Some tail) = option_and_then (weighed_behind tail) (member_of word)

-- a member word that may bear a weight: `NAME@ADDRESS`, then `*W` where the weight isn't left out, then `/down` where it is down
abbrev pub weighed_member_of : List ℕ → Option Member
weighed_member_of text = weighed_member (before_star text) (behind_star text)

-- a member that drains
abbrev pub draining_of : Member → Member
draining_of m = record { backend = m.backend; up = false; draining = true; weight = m.weight }

-- a member word that may bear a weight, or one with `drain` behind its first slash
abbrev pub stated_member : List ℕ → List ℕ → Option (List ℕ) → Option Member
stated_member text word None = weighed_member_of text
stated_member text word (Some state) = if bytes_eq state (codes "drain") then option_map draining_of (weighed_member_of word) else weighed_member_of text

-- a member word that may bear a weight and say that it drains: `NAME@ADDRESS`, then `*W` where the weight isn't left out, then
-- `/down` where it is down, or `/drain` where it drains
abbrev pub stated_member_of : List ℕ → Option Member
stated_member_of text = stated_member text (before_first 47 text) (behind_first 47 text)
