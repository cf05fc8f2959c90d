-- The records that are kept since a step that is left delivers them again.
use Rattle.std.specs.Prelude.{◌≡◌, ◌==◌, ℕ, zero, suc, Bool, false, List, [], ◌∷◌, Option, Some, None, slice_get, option_map, if◌then◌else◌}
use Rattle.std.specs.Ordering.{nat_cmp}
use Rattle.std.specs.BTreeMap.{get}
use Rattle.pcap_file.specs.Format.{Record, packet}
use Rattle.event_trace.specs.declared.steps.ScenarioStep.{ScenarioStep}
use Rattle.event_trace.specs.declared.steps.ScenarioStep.TheVariants as steps
use Rattle.timed_steps.specs.declared.TimedStep.{TimedStep}
use Rattle.timed_steps.specs.declared.TimedStep.TheVariants.{Counted, Until}
use Rattle.simulation.specs.declared.keeping.Later.{Later}
use Rattle.simulation.specs.declared.keeping.KeptRecords.{KeptRecords}

-- a step by count delivers the record of this place again
abbrev pub names_again : ℕ → ScenarioStep → Bool
names_again place (steps.Install n v) = false
names_again place (steps.Live ns) = false
names_again place (steps.Take k) = false
names_again place (steps.Lose k) = false
names_again place (steps.Again k) = place == k
names_again place (steps.Full n m) = false
names_again place (steps.Hold n) = false
names_again place (steps.Drain n) = false
names_again place (steps.Restart n) = false
names_again place (steps.Stop n) = false

-- a step does
abbrev pub names : ℕ → TimedStep → Bool
names place (Counted s) = names_again place s
names place (Until end) = false

-- this place is the one
abbrev pub is_at : ℕ → Option ℕ → Bool
is_at place None = false
is_at place (Some q) = place == q

-- how many of these steps do
abbrev pub times_named : ℕ → List TimedStep → ℕ
times_named place [] = 0
times_named place (s ∷ ss) = if names place s then suc (times_named place ss) else times_named place ss

-- how many steps name a place, and its record where that was read
abbrev pub kept_of : Later → ℕ × Option Record
kept_of l = (l.times, option_map (λ f. packet f.value) l.frame)

-- what is kept of a place
abbrev pub kept_at : KeptRecords → ℕ → Option (ℕ × Option Record)
kept_at k place = option_map kept_of (get nat_cmp k.places place)

abbrev pub times_in : Option (ℕ × Option Record) → ℕ
times_in None = 0
times_in (Some p) = p.0

-- what is to be kept of a place that so many steps name: nothing where none does
abbrev pub to_keep : ℕ → Option Record → Option (ℕ × Option Record)
to_keep zero r = None
to_keep (suc n) r = Some (suc n, r)

-- These records were read and these steps are left, and of each place exactly this is kept. So a record is kept where, and
-- only where, it was read and a step that is left names it.
abbrev pub KeepsNamed : List Record → List TimedStep → KeptRecords → Type 0
KeepsNamed seen ss k = (place : ℕ) → kept_at k place ≡ to_keep (times_named place ss) (slice_get seen place)
