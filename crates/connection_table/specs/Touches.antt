-- The entry of a flow that stands, read off the list of a forwarder's touches. A list of touches has the newest first.
use Rattle.std.specs.Prelude.{ℕ, ◌-◌, Bool, List, [], ◌∷◌, length, Option, Some, None, nat_lt, ◌==◌, ◌&&◌, if◌then◌else◌}
use Rattle.five_tuple.specs.declared.Flow.{Flow}
use Rattle.connection_table.specs.declared.table.Entry.{Entry}

-- two flows are one where they are equal in every part
abbrev pub same_flow : Flow → Flow → Bool
same_flow a b = (a.src == b.src) && ((a.dst == b.dst) && ((a.sport == b.sport) && ((a.dport == b.dport) && (a.proto == b.proto))))

-- a flow that was touched, with the backend and origin that it was given and the clock of that touch
abbrev pub Touch : Type 0
Touch = Flow × Entry

-- the entry at the last touch of the flow
abbrev pub last_touch : Flow → List Touch → Option Entry
last_touch x [] = None
last_touch x (t ∷ ts) = if same_flow t.0 x then Some t.1 else last_touch x ts

-- the touches after the last one of the flow
abbrev pub since : Flow → List Touch → List Touch
since x [] = []
since x (t ∷ ts) = if same_flow t.0 x then [] else t ∷ since x ts

-- the list without the flow's first place in it
abbrev pub without : Flow → List Touch → List Touch
without x [] = []
without x (t ∷ ts) = if same_flow t.0 x then ts else t ∷ without x ts

-- each flow once, by its last touch
abbrev pub newest_each : List Touch → List Touch
newest_each [] = []
newest_each (t ∷ ts) = t ∷ without t.0 (newest_each ts)

-- the number of distinct flows
abbrev pub distinct_flows : List Touch → ℕ
distinct_flows ts = length (newest_each ts)

-- the flow's last touch, while fewer than the capacity of others came after it
abbrev pub remembered : ℕ → Flow → List Touch → Option Entry
remembered capacity x ts = if nat_lt (distinct_flows (since x ts)) capacity then last_touch x ts else None

-- an entry whose last touch is longer ago than the limit is as none
abbrev pub unless_past : ℕ → ℕ → Entry → Option Entry
unless_past limit clock e = if nat_lt limit (clock - e.last) then None else Some e

-- the entry, where no limit is set or the clock less the clock at its last touch is at most the limit
abbrev pub in_time : Option ℕ → ℕ → Option Entry → Option Entry
in_time idle clock None = None
in_time None clock (Some e) = Some e
in_time (Some limit) clock (Some e) = unless_past limit clock e

-- The entry of a flow that stands at a clock. It is the flow's last touch, while fewer others than the capacity came after
-- it. Where a limit is set, the clock less the clock at that touch is also at most the limit.
abbrev pub standing : ℕ → Option ℕ → ℕ → Flow → List Touch → Option Entry
standing capacity idle clock x ts = in_time idle clock (remembered capacity x ts)
