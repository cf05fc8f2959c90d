-- What may not be as it was meant in a scenario that is one.
use Rattle.std.specs.Prelude.{ℕ, zero, suc, ◌==◌, ◌&&◌, not, Bool, true, false, if◌then◌else◌, List, [], ◌∷◌, ◌++◌, length, Option, Some, None, is_some}
use Rattle.std.specs.List.{list_any, flat_map}
use Rattle.pool_versions.specs.declared.catalogue.Catalogue.{Catalogue}
use Rattle.pool_versions.specs.declared.service.Service.{Service}
use Rattle.pool_versions.specs.declared.service.Version.{Version}
use Rattle.pool_versions.specs.Pool.{version_at, key_of}
use Rattle.event_trace.specs.declared.steps.ScenarioStep.TheVariants as steps
use Rattle.timed_steps.specs.declared.TimedStep.{TimedStep}
use Rattle.timed_steps.specs.declared.TimedStep.TheVariants.{Counted, Until}
use Rattle.scenario.specs.declared.plan.Scenario.{Scenario}
use Rattle.scenario_diagnostics.specs.declared.warned.Warning.{Warning}
use Rattle.scenario_diagnostics.specs.declared.warned.Warning.TheVariants.{UnknownVersion, NoVersion, NoMembers}

-- the catalogue has a version of this number
abbrev pub is_known : Catalogue → ℕ → Bool
is_known c v = is_some (version_at v c.versions)

-- a step installs a version of the catalogue on a node
abbrev pub gives : Catalogue → ℕ → TimedStep → Bool
gives c n (Counted (steps.Install m v)) = m == n && is_known c v
gives c n (Counted (steps.Live ns)) = false
gives c n (Counted (steps.Take k)) = false
gives c n (Counted (steps.Lose k)) = false
gives c n (Counted (steps.Again k)) = false
gives c n (Counted (steps.Full m ms)) = false
gives c n (Counted (steps.Hold m)) = false
gives c n (Counted (steps.Drain m)) = false
gives c n (Counted (steps.Restart m)) = false
gives c n (Counted (steps.Stop m)) = false
gives c n (Until t) = false

-- whether a node is live behind a step, where it was or wasn't before
abbrev pub live_after : ℕ → Bool → TimedStep → Bool
live_after n live (Counted (steps.Install m v)) = live
live_after n live (Counted (steps.Live ns)) = list_any (λ m. m == n) ns.items
live_after n live (Counted (steps.Take k)) = live
live_after n live (Counted (steps.Lose k)) = live
live_after n live (Counted (steps.Again k)) = live
live_after n live (Counted (steps.Full m ms)) = live
live_after n live (Counted (steps.Hold m)) = live
live_after n live (Counted (steps.Drain m)) = live
live_after n live (Counted (steps.Restart m)) = live
live_after n live (Counted (steps.Stop m)) = live
live_after n live (Until t) = live

-- a step delivers packets
abbrev pub delivers : TimedStep → Bool
delivers (Counted (steps.Install m v)) = false
delivers (Counted (steps.Live ns)) = false
delivers (Counted (steps.Take k)) = true
delivers (Counted (steps.Lose k)) = false
delivers (Counted (steps.Again k)) = true
delivers (Counted (steps.Full m ms)) = false
delivers (Counted (steps.Hold m)) = false
delivers (Counted (steps.Drain m)) = false
delivers (Counted (steps.Restart m)) = false
delivers (Counted (steps.Stop m)) = false
delivers (Until t) = true

-- a node is live at one of the steps that delivers packets
abbrev pub comes : ℕ → Bool → List TimedStep → Bool
comes n live [] = false
comes n live (s ∷ ss) = if live && delivers s then true else comes n (live_after n live s) ss

-- a warning is of this version, which the catalogue lacks
abbrev pub tells : ℕ → Warning → Bool
tells v (UnknownVersion w) = w == v
tells v (NoVersion n) = false
tells v (NoMembers w k) = false

-- the version that a step installs, where the catalogue lacks it
abbrev pub lacking : Catalogue → TimedStep → Option ℕ
lacking c (Counted (steps.Install n v)) = if is_known c v then None else Some v
lacking c (Counted (steps.Live ns)) = None
lacking c (Counted (steps.Take k)) = None
lacking c (Counted (steps.Lose k)) = None
lacking c (Counted (steps.Again k)) = None
lacking c (Counted (steps.Full m ms)) = None
lacking c (Counted (steps.Hold m)) = None
lacking c (Counted (steps.Drain m)) = None
lacking c (Counted (steps.Restart m)) = None
lacking c (Counted (steps.Stop m)) = None
lacking c (Until t) = None

-- the warnings with that of a version, which comes once
abbrev pub told_of : ℕ → List Warning → List Warning
told_of v ws = if list_any (tells v) ws then ws else ws ++ UnknownVersion v ∷ []

abbrev pub told_if : Option ℕ → List Warning → List Warning
told_if None ws = ws
told_if (Some v) ws = told_of v ws

abbrev pub told_after : Catalogue → TimedStep → List Warning → List Warning
told_after c s ws = told_if (lacking c s) ws

abbrev pub unknown_after : Catalogue → List TimedStep → List Warning → List Warning
unknown_after c [] ws = ws
unknown_after c (s ∷ ss) ws = unknown_after c ss (told_after c s ws)

-- a node to which packets come, and on which no step installs a version of the catalogue
abbrev pub bare_at : Catalogue → List TimedStep → ℕ → List Warning
bare_at c ss n = if comes n true ss && not (list_any (λ s. gives c n s) ss) then NoVersion n ∷ [] else []

abbrev pub bare_below : Catalogue → List TimedStep → ℕ → List Warning
bare_below c ss zero = []
bare_below c ss (suc n) = bare_below c ss n ++ bare_at c ss n

-- a service of a version without members
abbrev pub empty_at : ℕ → Service → List Warning
empty_at v s = if length s.members.items == 0 then NoMembers v (key_of s) ∷ [] else []

abbrev pub empty_in : Version → List Warning
empty_in v = flat_map (empty_at v.number) v.services.items

abbrev pub warnings_of : Scenario → List Warning
warnings_of s = (unknown_after s.catalogue s.steps.items [] ++ bare_below s.catalogue s.steps.items (length s.nodes.items))
    ++ flat_map empty_in s.catalogue.versions
