-- The flows of a map with their values, in the order in which the flows came. Places begin at 1.
use Rattle.std.specs.Prelude.{◌≡◌, ◌<◌, ◌-◌, ℕ, List, [], ◌∷◌, Option, Some, None, slice_get, if◌then◌else◌}
use Rattle.five_tuple.specs.declared.Flow.{Flow}
use Rattle.connection_table.specs.Touches.{same_flow}

module _ {V : Type 0} where
  -- the value of a flow
  abbrev pub value_of : Flow → List (Flow × V) → Option V
  value_of x [] = None
  value_of x (p ∷ ps) = if same_flow p.0 x then Some p.1 else value_of x ps

  -- the flows with another value of one of them, which comes last where it wasn't there
  abbrev pub valued : Flow → V → List (Flow × V) → List (Flow × V)
  valued x v [] = (x, v) ∷ []
  valued x v (p ∷ ps) = if same_flow p.0 x then (x, v) ∷ ps else p ∷ valued x v ps

  -- the flow stands at the place, with this value
  pub record StandsWith (x : Flow) (ps : List (Flow × V)) (p : ℕ) (v : V) : Type 0 where
    pub some : 0 < p
    pub there : slice_get ps (p - 1) ≡ Some (x, v)
    pub known : value_of x ps ≡ Some v

  -- the flow stands at the place
  abbrev pub StandsAt : Flow → List (Flow × V) → ℕ → Type 0
  StandsAt x ps p = (v : V) × StandsWith x ps p v
