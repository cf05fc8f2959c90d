-- A bounded list of flows with their entries, newest first.
use Rattle.std.specs.Prelude.{ℕ, List, ◌∷◌, take, Option, Some, None}
use Rattle.five_tuple.specs.declared.Flow.{Flow}
use Rattle.connection_table.specs.declared.key.TableKey.{TableKey}
use Rattle.connection_table.specs.declared.table.Entry.{Entry}
use Rattle.connection_table.specs.Touches.{Touch, last_touch, without}

-- a table as contracts see it
pub record Recency : Type 0 where
  pub limit : ℕ
  pub pairs : List Touch

-- a table that hashes by a key, as contracts see it
pub record Keyed : Type 0 where
  pub limit : ℕ
  pub pairs : List Touch
  pub key : TableKey

-- an entry that was found moves to the front, as it is
abbrev pub in_front : Flow → Option Entry → List Touch → List Touch
in_front x None ts = ts
in_front x (Some e) ts = (x, e) ∷ without x ts

-- the list after the flow was looked up
abbrev pub looked : Flow → List Touch → List Touch
looked x ts = in_front x (last_touch x ts) ts

-- an entry that is touched at a clock
abbrev pub at_clock : ℕ → Entry → Entry
at_clock clock e = record e { last = clock }

-- an entry that was found moves to the front, touched at the clock
abbrev pub moved : ℕ → Flow → Option Entry → List Touch → List Touch
moved clock x None ts = ts
moved clock x (Some e) ts = (x, at_clock clock e) ∷ without x ts

-- the list after the flow was touched at the clock
abbrev pub retouched : ℕ → Flow → List Touch → List Touch
retouched clock x ts = moved clock x (last_touch x ts) ts

-- an older pair of the flow goes, or in a full list the last pair
abbrev pub put_over : Option Entry → ℕ → Flow → Entry → List Touch → List Touch
put_over None capacity x e ts = take capacity ((x, e) ∷ ts)
put_over (Some older) capacity x e ts = (x, e) ∷ without x ts

-- the list after the pair was put in front of it
abbrev pub stored : ℕ → Flow → Entry → List Touch → List Touch
stored capacity x e ts = put_over (last_touch x ts) capacity x e ts
