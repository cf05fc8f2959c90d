-- What every table is, whatever was touched, stored or cleared: each flow is in it once, and there are no more than it may keep.
use Rattle.std.specs.Prelude.{◌≡◌, ◌<◌, ◌≤◌, ℕ, List, [], ◌∷◌, length, None}
use Rattle.five_tuple.specs.declared.Flow.{Flow}
use Rattle.connection_table.specs.declared.table.Entry.{Entry}
use Rattle.connection_table.specs.Recency.{retouched, stored}
use Rattle.connection_table.specs.Touches.{Touch, last_touch}

abbrev pub EachFlowOnce : List Touch → Type 0
EachFlowOnce [] = Unit {0}
EachFlowOnce (t ∷ ts) = (last_touch t.0 ts ≡ None) × EachFlowOnce ts

pub record IsTable (capacity : ℕ) (ts : List Touch) : Type 0 where
  pub once : EachFlowOnce ts
  pub few : length ts ≤ capacity

-- an empty list is a table
abbrev pub EmptyIsTable : Type 0
EmptyIsTable = (capacity : ℕ) → IsTable capacity []

-- a table stays one where a flow is touched
abbrev pub TouchingKeepsTables : Type 0
TouchingKeepsTables = (capacity clock : ℕ) (x : Flow) (ts : List Touch) → IsTable capacity ts → IsTable capacity (retouched clock x ts)

-- and where one is stored
abbrev pub StoringKeepsTables : Type 0
StoringKeepsTables = (capacity : ℕ) (x : Flow) (e : Entry) (ts : List Touch) → 0 < capacity → IsTable capacity ts → IsTable capacity (stored capacity x e ts)
