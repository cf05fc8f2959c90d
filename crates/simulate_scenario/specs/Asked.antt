-- What is kept of a run's events for what is wanted of it.
use Rattle.std.specs.Prelude.{ℕ, ◌==◌, Bool, true, false, ◌&&◌, ◌||◌, not, List, [], ◌∷◌, ◌++◌, length, codes, if◌then◌else◌}
use Rattle.cluster_node.specs.declared.events.LogEntry.{LogEntry}
use Rattle.traffic_shares.specs.declared.books.AskedShares.{AskedShares}
use Rattle.json_lines.specs.declared.forms.Form.{Form}
use Rattle.json_lines.specs.Forms.{head_as, event_as}
use Rattle.simulate_scenario.specs.declared.asking.Query.{Query}
use Rattle.simulate_scenario.specs.declared.asking.Query.TheVariants.{Report, Events}
use Rattle.simulate_scenario.specs.declared.asking.TwoEvents.{TwoEvents}
use Rattle.simulate_scenario.specs.declared.asking.Wanted.{Wanted}

-- what a report begins with
abbrev pub begun : Form → List ℕ
begun form = head_as form (codes "simulate")

-- what the lines of the events begin with
abbrev pub begun_for : Query → List ℕ
begun_for (Report wanted) = begun wanted.form
begun_for (Events two) = []

-- the line of the event of a number is asked for
abbrev pub lists_event : TwoEvents → ℕ → Bool
lists_event two k = two.list && (k == two.one || k == two.other)

abbrev pub event_if : TwoEvents → ℕ → LogEntry → List ℕ
event_if two k s = if lists_event two k then event_as two.form k s else []

-- the lines of two events of a record, where they are asked for, in the order of the events
abbrev pub lines_of_two : TwoEvents → List LogEntry → List ℕ
lines_of_two two [] = []
lines_of_two two (s ∷ past) = lines_of_two two past ++ event_if two (length past) s

-- the same without a line for each event
abbrev pub unlisted : Wanted → Wanted
unlisted w = record w { list = false }

-- the report alone is wanted
abbrev pub is_plain : Wanted → Bool
is_plain w = not (w.list || w.splits || w.places || w.backends || w.nodes || w.summary)

-- the report is wanted with a summary, and nothing else
abbrev pub is_summary : Wanted → Bool
is_summary w = w.summary && not (w.list || w.splits || w.places || w.backends || w.nodes)

-- the report alone is asked for
abbrev pub is_report_alone : Query → Bool
is_report_alone (Report wanted) = is_plain wanted
is_report_alone (Events two) = false

-- whose shares are wanted
abbrev pub asked_shares : Wanted → AskedShares
asked_shares w = record { backends = w.backends; nodes = w.nodes }

abbrev pub shares_in : Query → AskedShares
shares_in (Report wanted) = asked_shares wanted
shares_in (Events two) = record { backends = false; nodes = false }

-- the changes are kept: they are wanted with their places, or in a summary
abbrev pub keeps_changes : Bool → Bool → Bool
keeps_changes true summary = true
keeps_changes false summary = summary

-- the splits are kept by themselves: they are wanted, and no changes are kept, which have them too
abbrev pub keeps_splits : Bool → Bool → Bool
keeps_splits true splits = false
keeps_splits false splits = splits

-- nothing but the changes is kept beside the counts of a report
abbrev pub keeps_only_changes : Wanted → Bool
keeps_only_changes w = not (w.list || w.backends || w.nodes) && keeps_changes w.places w.summary

-- a report is asked for, and nothing but the changes is kept for it beside the counts
abbrev pub is_report_of_changes : Query → Bool
is_report_of_changes (Report wanted) = keeps_only_changes wanted
is_report_of_changes (Events two) = false
