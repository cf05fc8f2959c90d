-- What becomes of a flow's entry where it is looked up, kept or made anew.
use Rattle.std.specs.Prelude.{◌≡◌, ℕ, Bool, true, false, List, Option, Some, None, MatchBool}
use Rattle.five_tuple.specs.declared.Flow.{Flow}
use Rattle.connection_table.specs.declared.table.Entry.{Entry}
use Rattle.connection_table.specs.declared.table.Renewed.{Renewed}
use Rattle.connection_table.specs.declared.table.Renewed.TheVariants.{Kept, Made}
use Rattle.connection_table.specs.Recency.{retouched, stored}
use Rattle.connection_table.specs.Touches.{Touch, last_touch}

-- the flow has no entry, or one that isn't kept
abbrev pub IsLeft : (Entry → Bool → Type 0) → Option Entry → Type 0
IsLeft Keeps None = Unit {0}
IsLeft Keeps (Some e) = Keeps e false

-- A new entry is stored as it is made. Only for a flow without an entry that may be refused, and then nothing changes.
abbrev pub IsStored : Bool → ℕ → Flow → Entry → List Touch → List Touch → Type 0
IsStored b capacity x e ts after = MatchBool b (after ≡ stored capacity x e ts) ((last_touch x ts ≡ None) × (after ≡ ts))

-- an entry that is kept is touched; otherwise a new one is stored
abbrev pub IsRenewed : (Entry → Bool → Type 0) → (Entry → Type 0) → ℕ → ℕ → Flow → Renewed → List Touch → List Touch → Type 0
IsRenewed Keeps Makes capacity clock x (Kept e) ts after = (last_touch x ts ≡ Some e) × Keeps e true × (after ≡ retouched clock x ts)
IsRenewed Keeps Makes capacity clock x (Made e b) ts after = IsLeft Keeps (last_touch x ts) × Makes e × IsStored b capacity x e ts after
