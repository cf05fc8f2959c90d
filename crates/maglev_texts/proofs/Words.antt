-- What is cut into another number of pieces is no member.
use Rattle.std.proofs.Common.{◌≡◌, ℕ, ◌<◌, ◌≤◌, List, [], ◌∷◌, length, None, refl, arith}
use Rattle.maglev_texts.specs.Parsing.{member_of_pieces}

pub of_few : (parts : List (List ℕ)) → length parts < 2 → None ≡ member_of_pieces parts
of_few [] h = refl
of_few (a ∷ []) h = refl
of_few (a ∷ b ∷ parts) h = absurd (omega arith)

pub of_many : (parts : List (List ℕ)) → 3 ≤ length parts → None ≡ member_of_pieces parts
of_many [] h = absurd (omega arith)
of_many (a ∷ []) h = absurd (omega arith)
of_many (a ∷ b ∷ []) h = absurd (omega arith)
of_many (a ∷ b ∷ c ∷ parts) h = refl
