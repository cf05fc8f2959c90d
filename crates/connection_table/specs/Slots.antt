-- Entries in slots, one of which may be vacant for a while.
use Rattle.std.specs.Prelude.{◌≡◌, false, List, [], ◌∷◌, Option, Some, None, if◌then◌else◌}
use Rattle.five_tuple.specs.declared.Flow.{Flow}
use Rattle.connection_table.specs.declared.table.Entry.{Entry}
use Rattle.connection_table.specs.declared.slot.Slot.{Slot}
use Rattle.connection_table.specs.Touches.{Touch}

-- the entry in a slot
abbrev pub entry_of : Slot → Entry
entry_of s = record { backend = s.backend; version = s.version; last = s.last }

-- the entry in a slot, if it isn't vacant
abbrev pub before_of : Slot → Option Entry
before_of s = if s.vacant then None else Some (entry_of s)

-- flows with their slots, as flows with their entries
abbrev pub shown : {V : Type 0} → (V → Entry) → List (Flow × V) → List Touch
shown f [] = []
shown f (e ∷ es) = (e.0, f e.1) ∷ shown f es

-- no slot is vacant
abbrev pub AreFull : List (Flow × Slot) → Type 0
AreFull [] = Unit {0}
AreFull (e ∷ es) = (e.1.vacant ≡ false) × AreFull es
