-- Among whom a scheme picks.
use Rattle.std.specs.Prelude.{ℕ, List, Option, option_map, option_and_then}
use Rattle.five_tuple.specs.declared.Flow.{Flow}
use Rattle.pool_versions.specs.declared.backend.Backend.{Backend}
use Rattle.pool_versions.specs.declared.backend.Member.{Member}
use Rattle.pool_versions.specs.declared.service.Version.{Version}
use Rattle.pool_versions.specs.Pool.{Pools, version_at, find_service, ups, weights, draining_backends}

-- The backends of a flow's service that are up, in ascending order of name, and the weight of each. Beside them those that
-- drain: a scheme picks none of them, and a flow that has one keeps it.
pub record Candidates : Type 0 where
  pub backends : List Backend
  pub weights : List ℕ
  pub draining : List Backend

abbrev pub among : List Backend → List ℕ → List Backend → Candidates
among bs ws ds = record { backends = bs; weights = ws; draining = ds }

-- something holds of these backends and weights, whoever drains beside them
abbrev pub WhoeverDrains : (Candidates → Type 0) → List Backend → List ℕ → Type 0
WhoeverDrains Holds bs ws = (ds : List Backend) → Holds (among bs ws ds)

-- those of some members
abbrev pub candidates_in : List Member → Candidates
candidates_in ms = among (ups ms) (weights ms) (draining_backends ms)

-- those of a flow's service under a version
abbrev pub candidates_under : Version → Flow → Option Candidates
candidates_under v x = option_map (λ s. candidates_in s.members.items) (find_service x v.services.items)

-- those of a flow's service under the version of a number
abbrev pub candidates_of : Pools → ℕ → Flow → Option Candidates
candidates_of c n x = option_and_then (λ v. candidates_under v x) (version_at n c.versions)
