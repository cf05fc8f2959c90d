-- Pairs that stand at places, in an order of the places. Places begin at 1.
use Rattle.std.specs.Prelude.{ℕ, ◌-◌, List, [], map, get_or}
use Rattle.five_tuple.specs.declared.Flow.{Flow}
use Rattle.connection_table.specs.declared.table.Entry.{Entry}
use Rattle.connection_table.specs.Touches.{Touch}

abbrev pub no_flow : Flow
no_flow = record { src = 0; dst = 0; sport = 0; dport = 0; proto = 0 }

abbrev pub no_entry : Entry
no_entry = record { backend = record { name = []; addr = 0 }; version = 0; last = 0 }

-- the pair at a place
abbrev pub pair_at : List Touch → ℕ → Touch
pair_at ps p = get_or ps (p - 1) (no_flow, no_entry)

-- the pairs at some places, in the places' order
abbrev pub picked : List Touch → List ℕ → List Touch
picked ps order = map (λ p. pair_at ps p) order
