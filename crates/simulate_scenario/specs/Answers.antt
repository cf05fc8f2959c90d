-- What is asked of a scenario's run, and the text that answers it.
use Rattle.std.specs.Prelude.{◌≡◌, ℕ, ◌-◌, Bool, true, false, List, [], ◌++◌, reverse, Option, Some, None, option_and_then, slice_get}
use Rattle.pcap_file.specs.declared.format.InputEnd.{InputEnd}
use Rattle.pcap_file.specs.declared.format.InputEnd.TheVariants.{End, Cut}
use Rattle.pcap_file.specs.Device.{Tape}
use Rattle.spreader.specs.Choices.{Choice}
use Rattle.cluster_node.specs.declared.events.LogEntry.{LogEntry}
use Rattle.cluster_node.specs.declared.outcomes.Outcome.{Outcome}
use Rattle.cluster_core.specs.declared.counts.Totals.{Totals}
use Rattle.cluster_core.specs.OutcomeCounts.{is_arrival, is_forward, is_refused, how_many, drop_counts}
use Rattle.cluster_core.specs.Totals.{came_all, went_all}
use Rattle.cluster_core.specs.Histories.{outcomes_of}
use Rattle.cluster_core.specs.Explain.{Send, send_of, explained}
use Rattle.cluster_core.specs.Cluster.{Cluster}
use Rattle.event_trace.specs.Trace.{Trace}
use Rattle.event_trace.specs.Tally.{tally_of}
use Rattle.run_report.specs.Verdicts.{left_drained}
use Rattle.run_report.specs.Splits.{sent_at}
use Rattle.simulation.specs.Plans.{Planned}
use Rattle.simulation.specs.Simulated.{Simulated}
use Rattle.run_report.specs.Causes.{Lookups}
use Rattle.change_share.specs.declared.counts.ChangeCounts.{ChangeCounts}
use Rattle.connection_changes.specs.Changes.{counts_of}
use Rattle.json_lines.specs.declared.forms.Form.{Form}
use Rattle.json_lines.specs.Forms.{listing_as, splits_as, places_as, report_as, shares_as, summary_as, explanation_as}
use Rattle.scenario.specs.declared.plan.Scenario.{Scenario}
use Rattle.simulate_scenario.specs.Described.{cluster_in, choice_in, plan_in, lookups_in}
use Rattle.simulate_scenario.specs.Asked.{begun, lines_of_two, asked_shares, keeps_changes}
use Rattle.simulate_scenario.specs.declared.asking.Query.{Query}
use Rattle.simulate_scenario.specs.declared.asking.TwoEvents.{TwoEvents}
use Rattle.simulate_scenario.specs.declared.asking.Wanted.{Wanted}
use Rattle.simulate_scenario.specs.declared.asking.Query.TheVariants.{Report, Events}

-- the totals of some outcomes
abbrev pub totals_in : List Outcome → Totals
totals_in outs = record {
  received = how_many (λ o. is_arrival o) outs;
  forwarded = how_many (λ o. is_forward o) outs;
  dropped = drop_counts outs;
  waiting = came_all outs - went_all outs;
  refused = how_many (λ o. is_refused o) outs;
}

-- the input ended inside a record
abbrev pub is_cut : InputEnd → Bool
is_cut End = false
is_cut Cut = true

-- the report of a run over so many records
abbrev pub plain_report : Form → Trace → ℕ → InputEnd → List ℕ
plain_report form trace packets ending = report_as form (tally_of packets trace) (totals_in (outcomes_of (reverse trace.past))) (is_cut ending)

-- what a report begins with, and the line of each event, where they are asked for
abbrev pub listing_if : Form → Bool → Trace → List ℕ
listing_if form true trace = begun form ++ listing_as form (reverse trace.past)
listing_if form false trace = begun form

-- the line of each split, and how many there are, where they are asked for: with places, or without
abbrev pub splits_if : Form → Bool → Bool → Lookups → Option ℕ → Trace → List ℕ
splits_if form true splits lookups idle trace = places_as form lookups idle trace.past
splits_if form false true lookups idle trace = splits_as form lookups trace.past
splits_if form false false lookups idle trace = []

-- how many connections changed their server, and why, where it is asked for
abbrev pub summary_if : Form → Bool → Lookups → Option ℕ → Trace → List ℕ
summary_if form true lookups idle trace = summary_as form lookups idle trace.past
summary_if form false lookups idle trace = []

-- the report behind a listing, with what else is wanted before it, and after it
abbrev pub report_behind : List ℕ → Lookups → Option ℕ → Wanted → Trace → ℕ → InputEnd → List ℕ
report_behind listing lookups idle wanted trace packets ending =
    (((listing ++ splits_if wanted.form wanted.places wanted.splits lookups idle trace)
    ++ plain_report wanted.form trace packets ending) ++ shares_as wanted.form (asked_shares wanted) trace.past)
    ++ summary_if wanted.form wanted.summary lookups idle trace

-- the report with what is wanted before it, and after it
abbrev pub report_of : Lookups → Option ℕ → Wanted → Trace → ℕ → InputEnd → List ℕ
report_of lookups idle wanted trace packets ending = report_behind (listing_if wanted.form wanted.list trace) lookups idle wanted trace packets ending

-- what was sent at an event, counted from 0
abbrev pub send_at : List LogEntry → ℕ → Option Send
send_at history k = option_and_then (λ s. send_of s.outcome) (slice_get history k)

-- why the packets of two events went where they went, behind the lines of these events, where they are asked for
abbrev pub explanation_of : Lookups → Trace → TwoEvents → List ℕ
explanation_of lookups trace two =
    explanation_as two.form (lines_of_two two trace.past) (explained lookups.slot (send_at (reverse trace.past) two.one)
    (send_at (reverse trace.past) two.other))
    (left_drained lookups (sent_at trace.past two.one) (sent_at trace.past two.other))

-- the answer, by the scenario's idle limit
abbrev pub answer_of : Lookups → Option ℕ → Query → Trace → ℕ → InputEnd → List ℕ
answer_of lookups idle (Report wanted) trace packets ending = report_of lookups idle wanted trace packets ending
answer_of lookups idle (Events two) trace packets ending = explanation_of lookups trace two

-- how many connections there were, and how many of them changed their server, where the changes are kept
abbrev pub counts_if : Bool → List LogEntry → Option ChangeCounts
counts_if true past = Some (counts_of past)
counts_if false past = None

-- the same by what is asked: a report with places, or with a summary, keeps them
abbrev pub counts_for : Query → List LogEntry → Option ChangeCounts
counts_for (Report wanted) past = counts_if (keeps_changes wanted.places wanted.summary) past
counts_for (Events two) past = None

-- the scenario ran over the whole input, the output got what was sent, and the text answers what was asked
pub record Answers (cluster : Cluster) (choice : Choice) (plan : Planned) (lookups : Lookups) (idle : Option ℕ) (asked : Query)
    (input input' output output' : Tape) (text : List ℕ) : Type 0 where
  pub trace : Trace
  pub packets : ℕ
  pub ending : InputEnd
  pub simulated : Simulated cluster choice plan input input' output output' trace packets ending
  pub answer : text ≡ answer_of lookups idle asked trace packets ending

-- the same, and these are the counts of its connections
abbrev pub CountedAnswers : Cluster → Choice → Planned → Lookups → Option ℕ → Query → Tape → Tape → Tape → Tape → List ℕ → Option ChangeCounts → Type 0
CountedAnswers cluster choice plan lookups idle asked input input' output output' text counts =
    (a : Answers cluster choice plan lookups idle asked input input' output output' text) × (counts ≡ counts_for asked a.trace.past)

-- the same of a scenario's cluster
abbrev pub AnswersIn : Scenario → Query → Tape → Tape → Tape → Tape → List ℕ → Type 0
AnswersIn s asked input input' output output' text =
    Answers (cluster_in s) (choice_in s) (plan_in s) (lookups_in s) s.idle asked input input' output output' text

abbrev pub CountedIn : Scenario → Query → Tape → Tape → Tape → Tape → List ℕ → Option ChangeCounts → Type 0
CountedIn s asked input input' output output' text counts =
    CountedAnswers (cluster_in s) (choice_in s) (plan_in s) (lookups_in s) s.idle asked input input' output output' text counts
