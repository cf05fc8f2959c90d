-- What is cut into another number of pieces is no weight.
use Rattle.std.proofs.Common.{◌≡◌, ℕ, ◌<◌, ◌≤◌, List, [], ◌∷◌, length, None, refl, arith}
use Rattle.pool_versions.specs.declared.backend.Member.{Member}
use Rattle.maglev_texts.specs.Parsing.{weighed_at}

pub weighed_few : (m : Member) (parts : List (List ℕ)) → length parts < 1 → None ≡ weighed_at m parts
weighed_few m [] h = refl
weighed_few m (a ∷ parts) h = absurd (omega arith)

pub weighed_many : (m : Member) (parts : List (List ℕ)) → 3 ≤ length parts → None ≡ weighed_at m parts
weighed_many m [] h = absurd (omega arith)
weighed_many m (a ∷ []) h = absurd (omega arith)
weighed_many m (a ∷ b ∷ []) h = absurd (omega arith)
weighed_many m (a ∷ b ∷ c ∷ parts) h = refl
