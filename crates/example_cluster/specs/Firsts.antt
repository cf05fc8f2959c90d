-- What two sends to different backends mean where the first backend that is up is taken.
use Rattle.std.specs.Prelude.{◌≡◌, ℕ, List, Option, Some, None, slice_get}
use Rattle.five_tuple.specs.declared.Flow.{Flow}
use Rattle.pool_versions.specs.declared.backend.Backend.{Backend}
use Rattle.pool_versions.specs.Pool.{Pools, up_of}
use Rattle.cluster_node.specs.declared.outcomes.Outcome.{Outcome}
use Rattle.cluster_core.specs.Headline.{Sent}

abbrev pub first_of : Option (List Backend) → Option Backend
first_of None = None
first_of (Some ups) = slice_get ups 0

-- the first backend that is up for a flow under a version
abbrev pub first_up : Pools → ℕ → Flow → Option Backend
first_up pools v x = first_of (up_of pools v x)

-- two sends of one flow to different backends were chosen under versions whose lists begin with these backends
abbrev pub FirstsDiffer : Pools → List Outcome → Type 0
FirstsDiffer pools outs = (x : Flow) (b₁ b₂ : Backend) (v₁ v₂ : ℕ) → Sent outs x b₁ v₁ → Sent outs x b₂ v₂ → (b₁ ≡ b₂ → ⊥) →
    (first_up pools v₁ x ≡ Some b₁) × (first_up pools v₂ x ≡ Some b₂) × (first_up pools v₁ x ≡ first_up pools v₂ x → ⊥)
