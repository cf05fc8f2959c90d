-- What is kept of a run's events where the lines of these go to pages.
use Rattle.std.specs.Prelude.{◌≡◌, ℕ, Bool, true, false, List, [], ◌∷◌, ◌++◌, length, reverse}
use Rattle.cluster_node.specs.declared.events.LogEntry.{LogEntry}
use Rattle.json_lines.specs.Forms.{listing_as}
use Rattle.json_lines.specs.declared.forms.Form.{Form}
use Rattle.simulate_scenario.specs.Asked.{begun, unlisted}
use Rattle.simulate_scenario.specs.Notebooks.{AreOf}
use Rattle.simulate_scenario.specs.declared.asking.Query.TheVariants.{Report}
use Rattle.simulate_scenario.specs.declared.asking.Wanted.{Wanted}
use Rattle.simulate_scenario.specs.declared.notes.Notebook.{Notebook}

-- where lines are wanted the events are counted
abbrev pub NumbersIf : Bool → List LogEntry → ℕ → Type 0
NumbersIf true past number = number ≡ length past
NumbersIf false past number = Unit {0}

-- what a report begins with, and the line of each event, where they are wanted
abbrev pub lines_if : Form → Bool → List LogEntry → List ℕ
lines_if form true past = begun form ++ listing_as form (reverse past)
lines_if form false past = begun form

-- The notes are those of a record, which has so many events. Since the pages were the first, they were told what a listing
-- begins with and its lines, but for those that are still here.
pub record ArePaged {P : Type 0} (told : P → P → List ℕ → List ℕ → Type 0) (wanted beside : Wanted) (firsts : List P) (past : List LogEntry)
    (kept : Notebook) (number : ℕ) (lines : List ℕ) (pages : P) : Type 0 where
  pub beside_is : beside ≡ unlisted wanted
  pub kept_are : AreOf (Report beside) past kept
  pub numbers : NumbersIf wanted.list past number
  pub first : P
  pub first_is : firsts ≡ first ∷ []
  pub lines_told : told first pages lines (lines_if wanted.form wanted.list past)
