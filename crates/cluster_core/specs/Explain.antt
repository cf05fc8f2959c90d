-- Why two packets went where they went.
use Rattle.std.specs.Prelude.{◌≡◌, ℕ, List, Option, Some, None, if◌then◌else◌, slice_get}
use Rattle.five_tuple.specs.declared.Flow.{Flow}
use Rattle.pool_versions.specs.declared.backend.Backend.{Backend}
use Rattle.connection_table.specs.Touches.{same_flow}
use Rattle.selection.specs.Readied.{same_backend}
use Rattle.cluster_node.specs.declared.outcomes.Outcome.{Outcome}
use Rattle.cluster_node.specs.declared.outcomes.Outcome.TheVariants.{Installed, Placed, Forward, Dropped, Restarted, Refused}
use Rattle.cluster_node.specs.Rules.{Rules}
use Rattle.cluster_core.specs.declared.explaining.Verdict.{Verdict}
use Rattle.cluster_core.specs.declared.explaining.Verdict.TheVariants.{NotSent, OtherFlow, Same, Split}
use Rattle.cluster_core.specs.Headline.{pick_under}

-- a packet that was sent
pub record Send : Type 0 where
  pub flow : Flow
  pub backend : Backend
  pub origin : ℕ

abbrev pub send_of : Outcome → Option Send
send_of Installed = None
send_of (Placed w f) = None
send_of (Forward n w k x b v) = Some (record { flow = x; backend = b; origin = v })
send_of (Dropped k c) = None
send_of (Restarted l) = None
send_of (Refused r) = None

abbrev pub compared : (Flow → ℕ) → Send → Send → Verdict
compared slot a b =
    if same_flow a.flow b.flow then (if same_backend a.backend b.backend then Same else Split (slot a.flow) a.origin b.origin a.backend b.backend)
    else OtherFlow

abbrev pub explained : (Flow → ℕ) → Option Send → Option Send → Verdict
explained slot None b = NotSent
explained slot (Some a) None = NotSent
explained slot (Some a) (Some b) = compared slot a b

-- what was sent went to the pick under its origin
abbrev pub PickedSend : Rules → Option Send → Type 0
PickedSend rules None = Unit {0}
PickedSend rules (Some s) = pick_under rules s.origin s.flow ≡ Some s.backend

-- so did every packet that was sent
abbrev pub PickedSends : Rules → List Outcome → Type 0
PickedSends rules outs = (k : ℕ) (o : Outcome) → slice_get outs k ≡ Some o → PickedSend rules (send_of o)

-- a split is of two versions that pick different backends for the flow
abbrev pub Explains : Rules → (Flow → ℕ) → Option Send → Verdict → Type 0
Explains rules slot s NotSent = Unit {0}
Explains rules slot s OtherFlow = Unit {0}
Explains rules slot s Same = Unit {0}
Explains rules slot None (Split k v₁ v₂ b₁ b₂) = ⊥
Explains rules slot (Some s) (Split k v₁ v₂ b₁ b₂) = (k ≡ slot s.flow) × (pick_under rules v₁ s.flow ≡ Some b₁) × (pick_under rules v₂ s.flow ≡ Some b₂)
    × (b₁ ≡ b₂ → ⊥)
