-- What is told of a run, and what is kept of its events, where a flow that begins again is another connection.
use Rattle.std.specs.Prelude.{◌≡◌, ℕ, Bool, true, false, List, [], ◌∷◌, ◌++◌, Option, Some, None, string_bytes}
use Rattle.pcap_file.specs.declared.format.InputEnd.{InputEnd}
use Rattle.pcap_file.specs.Device.{Tape}
use Rattle.cluster_node.specs.declared.events.LogEntry.{LogEntry}
use Rattle.event_trace.specs.Trace.{Trace}
use Rattle.run_report.specs.Causes.{Lookups}
use Rattle.change_share.specs.declared.counts.ChangeCounts.{ChangeCounts}
use Rattle.connection_starts.specs.declared.ordinals.Ordinals.{Ordinals}
use Rattle.connection_starts.specs.Captures.{answered}
use Rattle.connection_changes.specs.declared.turned.TurnedBook.{TurnedBook}
use Rattle.connection_changes.specs.Turns.{Reckoning, reckoning_by, counts_in}
use Rattle.connection_changes.specs.TurnedBooks.{IsTurnedBookOf}
use Rattle.json_lines.specs.declared.forms.Form.{Form}
use Rattle.json_lines.specs.Forms.{told_as, places_by, summary_by}
use Rattle.node_part.specs.Parts.{part_trace}
use Rattle.node_part.specs.Played.{PartSimulated}
use Rattle.scenario.specs.declared.plan.Scenario.{Scenario}
use Rattle.simulate_scenario.specs.Answers.{listing_if, report_behind}
use Rattle.simulate_scenario.specs.Asked.{keeps_changes}
use Rattle.simulate_scenario.specs.Described.{cluster_in, choice_in, plan_in, lookups_in}
use Rattle.simulate_scenario.specs.Paging.{ArePaged}
use Rattle.simulate_scenario.specs.declared.asking.Answer.{Answer}
use Rattle.simulate_scenario.specs.declared.asking.Wanted.{Wanted}
use Rattle.simulate_scenario.specs.declared.notes.Notebook.{Notebook}

-- what is wanted without what is told of connections
abbrev pub unturned : Wanted → Wanted
unturned w = record w { splits = false; places = false; summary = false }

-- by the ordinals of the capture's records
abbrev pub reckoned_by : Ordinals → List LogEntry → Reckoning
reckoned_by o past = reckoning_by (λ k. answered o k) past

-- the line of each split, and their counts, where they are asked for: with places, or without
abbrev pub turned_if : Form → Bool → Bool → Lookups → Option ℕ → Reckoning → List ℕ
turned_if form true splits lookups idle r = places_by form lookups idle r
turned_if form false true lookups idle r = told_as form lookups r.connections r.splits
turned_if form false false lookups idle r = []

-- how many connections changed their server, and why, where it is asked for
abbrev pub turned_summary_if : Form → Bool → Lookups → Option ℕ → Reckoning → List ℕ
turned_summary_if form true lookups idle r = summary_by form lookups idle r
turned_summary_if form false lookups idle r = []

-- the report behind a listing: what is told of connections is by these
abbrev pub turned_behind : List ℕ → Lookups → Option ℕ → Wanted → Reckoning → Trace → ℕ → InputEnd → List ℕ
turned_behind listing lookups idle wanted r trace packets ending =
    report_behind (listing ++ turned_if wanted.form wanted.places wanted.splits lookups idle r) lookups idle (unturned wanted) trace packets ending
    ++ turned_summary_if wanted.form wanted.summary lookups idle r

-- the report with what is wanted before it, and after it
abbrev pub turned_report : Ordinals → Lookups → Option ℕ → Wanted → Trace → ℕ → InputEnd → List ℕ
turned_report o lookups idle wanted trace packets ending =
    turned_behind (listing_if wanted.form wanted.list trace) lookups idle wanted (reckoned_by o trace.past) trace packets ending

-- how many connections there were, and how many of them changed their server, where this is wanted
abbrev pub turned_counts_if : Bool → Ordinals → List LogEntry → Option ChangeCounts
turned_counts_if true o past = Some (counts_in (reckoned_by o past))
turned_counts_if false o past = None

-- The notes are those of a record. What is wanted beside the connections is kept as ever, and the book of the connections is by
-- the ordinals that the capture had.
pub record AreTurnedNotes {P : Type 0} (told : P → P → List ℕ → List ℕ → Type 0) (wanted paged beside : Wanted) (firsts : List P) (ordinals : List Ordinals)
    (past : List LogEntry) (kept : Notebook) (number : ℕ) (lines : List ℕ) (pages : P) (book : TurnedBook) : Type 0 where
  pub paged_is : paged ≡ unturned wanted
  pub paged_are : ArePaged told paged beside firsts past kept number lines pages
  pub turns : Ordinals
  pub turns_are : ordinals ≡ turns ∷ []
  pub book_is : IsTurnedBookOf turns past book

-- The answer is that to a report by these ordinals, behind what the pages were told since they were the first.
pub record IsTurnedAnswer {P : Type 0} (told : P → P → List ℕ → List ℕ → Type 0)
    (wanted : Wanted) (firsts : List P) (ordinals : List Ordinals) (pages : P) (a : Answer)
    (lookups : Lookups) (idle : Option ℕ) (trace : Trace) (packets : ℕ) (ending : InputEnd) : Type 0 where
  pub first : P
  pub first_is : firsts ≡ first ∷ []
  pub turns : Ordinals
  pub turns_are : ordinals ≡ turns ∷ []
  pub text_told : told first pages (string_bytes a.text) (turned_report turns lookups idle wanted trace packets ending)
  pub counted : a.counts ≡ turned_counts_if (keeps_changes wanted.places wanted.summary) turns trace.past

-- The scenario ran over the whole input, the output got what the whole run sends at the part's events, and the text is the
-- report that is wanted of these events, in which connections are told by the ordinals. These are the counts of them.
pub record TurnedAnswers (o : Ordinals) (only : Option ℕ) (s : Scenario) (wanted : Wanted) (input input' output output' : Tape) (text : List ℕ)
    (counts : Option ChangeCounts) : Type 0 where
  pub trace : Trace
  pub packets : ℕ
  pub ending : InputEnd
  pub simulated : PartSimulated only (cluster_in s) (choice_in s) (plan_in s) input input' output output' trace packets ending
  pub answer : text ≡ turned_report o (lookups_in s) s.idle wanted (part_trace only trace) packets ending
  pub counted : counts ≡ turned_counts_if (keeps_changes wanted.places wanted.summary) o (part_trace only trace).past

-- such a report is the whole of what was told, with this text behind it
pub record TurnedToldIn (o : Ordinals) (only : Option ℕ) (s : Scenario) (wanted : Wanted) (told : List ℕ → List ℕ → Type 0) (input input' output output' : Tape)
    (text : List ℕ) (counts : Option ChangeCounts) : Type 0 where
  pub whole : List ℕ
  pub answers : TurnedAnswers o only s wanted input input' output output' whole counts
  pub is_told : told text whole
