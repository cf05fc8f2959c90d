-- Servings of one worker after one another.
use Rattle.std.specs.Prelude.{ℕ, Bool, List, [], ◌∷◌, None, if◌then◌else◌}
use Rattle.cluster_node.specs.Book.{Line, took}
use Rattle.cluster_node.specs.declared.events.Event.{Event}
use Rattle.cluster_node.specs.declared.events.Event.TheVariants.{Serve}
use Rattle.cluster_node.specs.declared.outcomes.Outcome.{Outcome}
use Rattle.cluster_node.specs.Rules.{Rules}
use Rattle.cluster_node.specs.declared.events.LogEntry.{LogEntry}
use Rattle.cluster_node.specs.Record.{accepted, by_lines}
use Rattle.cluster_core.specs.Runs.{say}

-- a version, and whether a new entry is refused
pub record Ask : Type 0 where
  pub version : ℕ
  pub refused : Bool

-- the events of a worker's servings
abbrev pub serves : ℕ → ℕ → List Ask → List Event
serves n w [] = []
serves n w (a ∷ rest) = Serve n w a.version a.refused ∷ serves n w rest

abbrev pub lines_asked : List Line → Ask → Outcome → List Line
lines_asked ls a o = if accepted o then took a.version a.refused ∷ ls else ls

-- their outcomes by the installed versions and the worker's own lines
abbrev pub own : Rules → List ℕ → List Line → ℕ → ℕ → List Ask → List Outcome
own rules installed ls n w [] = []
own rules installed ls n w (a ∷ rest) = by_lines rules installed ls n w a.version a.refused
    ∷ own rules installed (lines_asked ls a (by_lines rules installed ls n w a.version a.refused)) n w rest

-- the record after them
abbrev pub past_after : Rules → List LogEntry → ℕ → ℕ → List Ask → List LogEntry
past_after rules past n w [] = past
past_after rules past n w (a ∷ rest) = past_after rules (say rules past (Serve n w a.version a.refused) None ∷ past) n w rest
