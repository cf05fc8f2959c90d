-- What changes from one table to another of its size, counted.
use Rattle.std.specs.Prelude.{ℕ, ◌+◌, ◌-◌, Bool, false, not, ◌&&◌, List, Option, Some, None}
use Rattle.std.specs.List.{list_any, range_with_len, count_by, sum_by}
use Rattle.pool_versions.specs.declared.backend.Backend.{Backend}
use Rattle.selection.specs.Picks.{NamedTable}
use Rattle.selection.specs.Readied.{same_backend}
use Rattle.table_commands.specs.Compare.{name_alike, named_at, is_moved}

-- how many slots of a table there are of which this holds
abbrev pub slots_where : (ℕ → Bool) → ℕ → ℕ
slots_where holds size = count_by holds (range_with_len 0 size)

-- how many slots name a backend, or for None nobody
abbrev pub slots_naming : Option Backend → NamedTable → ℕ
slots_naming who t = slots_where (λ slot. name_alike who (named_at t slot)) t.size

-- a backend is up
abbrev pub is_up : NamedTable → Backend → Bool
is_up t b = list_any (λ up. same_backend up b) t.ups

-- who a slot named is up
abbrev pub stays_up : NamedTable → Option Backend → Bool
stays_up t None = false
stays_up t (Some b) = is_up t b

-- a backend is among those that drain
abbrev pub drains : List Backend → Backend → Bool
drains draining b = list_any (λ d. same_backend d b) draining

-- who a slot named drains
abbrev pub who_drains : List Backend → Option Backend → Bool
who_drains draining None = false
who_drains draining (Some b) = drains draining b

-- how many slots name somebody else after than before
abbrev pub changed : NamedTable → NamedTable → ℕ
changed before after = slots_where (is_moved before after) before.size

-- how many of these named nobody, or one who is up no more and doesn't drain
abbrev pub down : NamedTable → NamedTable → List Backend → ℕ
down before after draining =
    slots_where (λ slot. is_moved before after slot && (not (stays_up after (named_at before slot))
    && not (who_drains draining (named_at before slot)))) before.size

-- how many named one who is up no more but drains
abbrev pub drained : NamedTable → NamedTable → List Backend → ℕ
drained before after draining =
    slots_where (λ slot. is_moved before after slot && (not (stays_up after (named_at before slot)) && who_drains draining (named_at before slot))) before.size

-- how many named one who is up still
abbrev pub moved : NamedTable → NamedTable → ℕ
moved before after = slots_where (λ slot. is_moved before after slot && stays_up after (named_at before slot)) before.size

-- how many slots fewer name a backend, or nobody, after than before
abbrev pub slots_lost : NamedTable → NamedTable → Option Backend → ℕ
slots_lost before after who = slots_naming who before - slots_naming who after

-- how many slots are lost, over each backend of the first table and nobody
abbrev pub least : NamedTable → NamedTable → ℕ
least before after = sum_by (λ b. slots_lost before after (Some b)) before.ups + slots_lost before after None
