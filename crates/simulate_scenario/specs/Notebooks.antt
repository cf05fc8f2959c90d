-- What is kept of a run's events for what is asked of it.
use Rattle.std.specs.Prelude.{◌≡◌, Bool, true, false, List, ◌++◌, length, reverse, string_bytes, slice_get}
use Rattle.cluster_node.specs.declared.events.LogEntry.{LogEntry}
use Rattle.cluster_core.specs.Histories.{outcomes_of}
use Rattle.event_trace.specs.Counting.{CountsAre}
use Rattle.run_report.specs.declared.book.SplitBook.{SplitBook}
use Rattle.run_report.specs.Books.{IsBookOf}
use Rattle.run_report.specs.Splits.{sent_at}
use Rattle.connection_changes.specs.declared.book.ChangeBook.{ChangeBook}
use Rattle.connection_changes.specs.Books.{IsNotedChangeBookOf, IsChangeBookOf}
use Rattle.traffic_shares.specs.Books.{AreShareBooksOf}
use Rattle.json_lines.specs.declared.forms.Form.{Form}
use Rattle.json_lines.specs.Forms.{listing_as}
use Rattle.simulate_scenario.specs.Asked.{begun, lines_of_two, is_plain, asked_shares, keeps_splits, keeps_changes, keeps_only_changes}
use Rattle.simulate_scenario.specs.declared.asking.Query.{Query}
use Rattle.simulate_scenario.specs.declared.asking.TwoEvents.{TwoEvents}
use Rattle.simulate_scenario.specs.declared.asking.Wanted.{Wanted}
use Rattle.simulate_scenario.specs.declared.asking.Query.TheVariants.{Report, Events}
use Rattle.simulate_scenario.specs.declared.notes.Notebook.{Notebook}

-- the text begins as this form does, and then has the lines of a record, which has so many events
pub record Lists (form : Form) (past : List LogEntry) (n : Notebook) : Type 0 where
  pub number : n.number ≡ length past
  pub lines : string_bytes n.lines ≡ begun form ++ listing_as form (reverse past)

-- where they are asked for, and else there are none
abbrev pub ListsIf : Form → Bool → List LogEntry → Notebook → Type 0
ListsIf form true past n = Lists form past n
ListsIf form false past n = string_bytes n.lines ≡ begun form

-- a book of splits is the record's, where they are asked for
abbrev pub BookIf : Bool → List LogEntry → SplitBook (Unit {0}) → Type 0
BookIf true past b = IsBookOf past b
BookIf false past b = Unit {0}

-- the events of a record were noted in a book of changes, where these are asked for
abbrev pub NotedChangesIf : Bool → List LogEntry → ChangeBook → Type 0
NotedChangesIf true past b = IsNotedChangeBookOf past b
NotedChangesIf false past b = Unit {0}

-- a book of changes is the record's, where they are asked for
abbrev pub ChangesIf : Bool → List LogEntry → ChangeBook → Type 0
ChangesIf true past b = IsChangeBookOf past b
ChangesIf false past b = Unit {0}

-- Of a record, which has so many events, the outcomes of two are kept: those of these numbers, the oldest of number 0. What
-- they sent is kept too, and their lines, where they are asked for.
pub record KeepsTwo (two : TwoEvents) (past : List LogEntry) (n : Notebook) : Type 0 where
  pub number : n.number ≡ length past
  pub lines : string_bytes n.lines ≡ lines_of_two two past
  pub one_is : n.one ≡ slice_get (outcomes_of (reverse past)) two.one
  pub other_is : n.other ≡ slice_get (outcomes_of (reverse past)) two.other
  pub first_is : n.first ≡ sent_at past two.one
  pub later_is : n.later ≡ sent_at past two.other

-- the books are the record's, those that what is wanted of a report needs
abbrev pub KeepsBooks : Wanted → List LogEntry → Notebook → Type 0
KeepsBooks wanted past n =
    BookIf (keeps_splits (keeps_changes wanted.places wanted.summary) wanted.splits) past n.book
    × ChangesIf (keeps_changes wanted.places wanted.summary) past n.changes
    × AreShareBooksOf (asked_shares wanted) past n.shares

-- what is kept beside the counts of a report
abbrev pub KeepsMore : Wanted → List LogEntry → Notebook → Type 0
KeepsMore wanted past n =
    ListsIf wanted.form wanted.list past n × BookIf (keeps_splits (keeps_changes wanted.places wanted.summary) wanted.splits) past n.book
    × NotedChangesIf (keeps_changes wanted.places wanted.summary) past n.changes × AreShareBooksOf (asked_shares wanted) past n.shares

-- the notes are those of a record, for what is asked, and know whether a report alone is, or one beside which only the changes are kept
abbrev pub AreOf : Query → List LogEntry → Notebook → Type 0
AreOf (Report wanted) past n = CountsAre (outcomes_of past) n.counts × KeepsMore wanted past n × (n.is_plain ≡ is_plain wanted)
    × (n.only_changes ≡ keeps_only_changes wanted)
AreOf (Events two) past n = KeepsTwo two past n
