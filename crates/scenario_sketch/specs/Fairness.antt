-- What ranked destinations are, in the words of the packets alone.
use Rattle.std.specs.Prelude.{◌≡◌, ◌<◌, ◌⊎◌, ℕ, suc, nat_lt, if◌then◌else◌, List, [], ◌∷◌, count_by}
use Rattle.std.specs.List.{All, AllPairs, list_any}
use Rattle.pool_versions.specs.declared.key.ServiceKey.{ServiceKey}
use Rattle.pool_versions.specs.Pool.{same_key}
use Rattle.scenario_sketch.specs.declared.counted.Counted.{Counted}
use Rattle.scenario_sketch.specs.Counts.{busy, IsRanked}

-- how many packets came before the first one to a destination
abbrev pub first_place : List ServiceKey → ServiceKey → ℕ
first_place [] k = 0
first_place (d ∷ ds) k = if same_key k d then 0 else suc (first_place ds k)

-- more packets went to the first destination; or as many, and its first packet came before the other's
abbrev pub ComesBefore : List ServiceKey → Counted → Counted → Type 0
ComesBefore ds a b = (b.packets < a.packets) ⊎ ((a.packets ≡ b.packets) × (first_place ds a.service < first_place ds b.service))

-- each has its number of packets; a destination is there exactly where more than five packets went to it; and each comes before
-- all that are behind it, so that none is there twice
pub record IsFair (ds : List ServiceKey) (ranked : List Counted) : Type 0 where
  pub exact : All (λ c. c.packets ≡ count_by (same_key c.service) ds) ranked
  pub there : (k : ServiceKey) → list_any (λ c. same_key k c.service) ranked ≡ nat_lt 5 (count_by (same_key k) ds)
  pub order : AllPairs (ComesBefore ds) ranked

abbrev pub RankedAreFair : Type 0
RankedAreFair = (ds : List ServiceKey) (ranked : List Counted) → IsRanked (busy ds) ranked → IsFair ds ranked
