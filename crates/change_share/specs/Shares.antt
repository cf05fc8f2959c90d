-- Parts of a whole as text, in parts per million.
use Rattle.std.specs.Prelude.{ℕ, ◌+◌, ◌-◌, ◌*◌, ◌/◌, ◌==◌, ◌&&◌, nat_le, nat_lt, if◌then◌else◌, List, [], ◌∷◌, Option, Some, None, option_and_then, option_map}

-- the parts that decimal places are, where one of the first place are so many, and of each next one a tenth of it
abbrev pub millionths : ℕ → List ℕ → Option ℕ
millionths unit [] = Some 0
millionths unit (b ∷ bs) =
    if (nat_le 48 b && nat_le b 57) && nat_lt 0 unit then option_map (λ rest. (b - 48) * unit + rest) (millionths (unit / 10) bs) else None

-- one to six decimal places
abbrev pub places_of : List ℕ → Option ℕ
places_of [] = None
places_of (b ∷ bs) = millionths 100000 (b ∷ bs)

-- the share of a digit and the parts behind its point: it is at most 1
abbrev pub share_within : ℕ → ℕ → Option ℕ
share_within whole parts = if whole == 48 then Some parts else (if whole == 49 && parts == 0 then Some 1000000 else None)

-- the share that a word is: `0` or `1`, and behind a point one to six digits; it is at most 1
abbrev pub share_of_word : List ℕ → Option ℕ
share_of_word [] = None
share_of_word (whole ∷ []) = share_within whole 0
share_of_word (whole ∷ point ∷ places) = if point == 46 then option_and_then (share_within whole) (places_of places) else None
