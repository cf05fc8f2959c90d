-- Seconds as text, in microseconds.
use Rattle.std.specs.Prelude.{ℕ, ◌+◌, ◌-◌, ◌*◌, ◌/◌, ◌&&◌, nat_le, nat_lt, if◌then◌else◌, List, [], ◌∷◌, Option, Some, None, option_and_then, option_map}
use Rattle.maglev_texts.specs.Parsing.{decimal_of, pieces}

-- the microseconds of decimal places, where one of the first place are so many, and of each next one a tenth of it
abbrev pub places_from : ℕ → List ℕ → Option ℕ
places_from unit [] = Some 0
places_from unit (b ∷ bs) =
    if (nat_le 48 b && nat_le b 57) && nat_lt 0 unit then option_map (λ rest. (b - 48) * unit + rest) (places_from (unit / 10) bs) else None

-- one to six decimal places
abbrev pub places_of : List ℕ → Option ℕ
places_of [] = None
places_of (b ∷ bs) = places_from 100000 (b ∷ bs)

-- the microseconds of a time, which is at most 4,294,967,295 seconds
abbrev pub micros_within : ℕ → ℕ → Option ℕ
micros_within seconds places = if nat_le (seconds * 1000000 + places) 4294967295000000 then Some (seconds * 1000000 + places) else None

-- whole seconds, or seconds and decimal places
abbrev pub micros_of_pieces : List (List ℕ) → Option ℕ
micros_of_pieces (whole ∷ []) = option_and_then (λ seconds. micros_within seconds 0) (decimal_of 4294967295 whole)
micros_of_pieces (whole ∷ places ∷ []) =
    option_and_then (λ seconds. option_and_then (λ micros. micros_within seconds micros) (places_of places)) (decimal_of 4294967295 whole)
micros_of_pieces _ = None

-- the microseconds of seconds as text: a decimal number, or two joined by a point, of which the second has one to six digits
abbrev pub micros_of : List ℕ → Option ℕ
micros_of text = micros_of_pieces (pieces 46 text)
