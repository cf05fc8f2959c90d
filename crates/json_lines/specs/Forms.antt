-- What is printed of a run, in each form.
use Rattle.std.specs.Prelude.{ℕ, Bool, true, false, List, [], ◌++◌, length, codes, Option}
use Rattle.cluster_node.specs.declared.events.LogEntry.{LogEntry}
use Rattle.cluster_core.specs.declared.counts.Totals.{Totals}
use Rattle.cluster_core.specs.declared.explaining.Verdict.{Verdict}
use Rattle.event_trace.specs.declared.play.Tally.{Tally}
use Rattle.run_report.specs.Causes.{Lookups}
use Rattle.run_report.specs.Lines.{line_text, listing}
use Rattle.run_report.specs.Report.{report_text}
use Rattle.run_report.specs.Texts.{text_of}
use Rattle.run_report.specs.Verdicts.{explained_text}
use Rattle.connection_changes.specs.Texts as plain
use Rattle.connection_changes.specs.Turns.{Reckoning, reckoning_of}
use Rattle.run_report.specs.declared.sending.Split.{Split}
use Rattle.run_report.specs.Splits.{splits_of, flows_of}
use Rattle.traffic_shares.specs.declared.books.AskedShares.{AskedShares}
use Rattle.traffic_shares.specs.declared.holders.ShareKind.{ShareKind}
use Rattle.traffic_shares.specs.declared.holders.ShareKind.TheVariants.{Backends, Nodes}
use Rattle.traffic_shares.specs.Texts.{shares_text}
use Rattle.json_lines.specs.declared.forms.Form.{Form}
use Rattle.json_lines.specs.declared.forms.Form.TheVariants.{Plain, Json}
use Rattle.json_lines.specs.Heads.{head_json, audit_json}
use Rattle.json_lines.specs.Events.{event_json, listing_json}
use Rattle.json_lines.specs.Splits.{told_json}
use Rattle.json_lines.specs.Places as json
use Rattle.json_lines.specs.Reports.{report_json}
use Rattle.json_lines.specs.Shares.{shares_json}
use Rattle.json_lines.specs.Summaries.{summary_in}
use Rattle.json_lines.specs.Verdicts.{verdict_json}

-- what a command's output begins with
abbrev pub head_as : Form → List ℕ → List ℕ
head_as Plain command = []
head_as Json command = head_json command

-- an event's line
abbrev pub event_as : Form → ℕ → LogEntry → List ℕ
event_as Plain k said = line_text k said
event_as Json k said = event_json k said

-- a line for each event, the oldest first, numbered from 0
abbrev pub listing_as : Form → List LogEntry → List ℕ
listing_as Plain history = listing history
listing_as Json history = listing_json history

-- a line for each of some splits, and their counts, with so many flows
abbrev pub told_as : Form → Lookups → ℕ → List Split → List ℕ
told_as Plain lookups flows ps = text_of lookups flows ps
told_as Json lookups flows ps = told_json lookups flows ps

-- those of a record
abbrev pub splits_as : Form → Lookups → List LogEntry → List ℕ
splits_as form lookups past = told_as form lookups (length (flows_of past)) (splits_of past)

-- a line for each change of what is told of connections, and the counts of the splits
abbrev pub places_by : Form → Lookups → Option ℕ → Reckoning → List ℕ
places_by Plain lookups idle r = plain.places_in lookups idle r
places_by Json lookups idle r = json.places_in lookups idle r

-- those of a record
abbrev pub places_as : Form → Lookups → Option ℕ → List LogEntry → List ℕ
places_as form lookups idle past = places_by form lookups idle (reckoning_of past)

abbrev pub report_as : Form → Tally → Totals → Bool → List ℕ
report_as Plain tally totals is_cut = report_text tally totals is_cut
report_as Json tally totals is_cut = report_json tally totals is_cut

-- whether a history agrees with its replay
abbrev pub audit_line : Bool → List ℕ
audit_line true = codes "audit agrees\n"
audit_line false = codes "audit differs\n"

abbrev pub audit_as : Form → Bool → List ℕ
audit_as Plain agrees = audit_line agrees
audit_as Json agrees = audit_json agrees

-- what each backend, or each node, took under each version
abbrev pub share_lines : Form → ShareKind → List LogEntry → List ℕ
share_lines Plain kind past = shares_text kind past
share_lines Json kind past = shares_json kind past

-- the same, where it is asked for
abbrev pub share_lines_if : Form → Bool → ShareKind → List LogEntry → List ℕ
share_lines_if form true kind past = share_lines form kind past
share_lines_if form false kind past = []

-- of backends, and then of nodes
abbrev pub shares_as : Form → AskedShares → List LogEntry → List ℕ
shares_as form asked past = share_lines_if form asked.backends Backends past ++ share_lines_if form asked.nodes Nodes past

-- how many connections there were, how many of them changed their server, how often, and why
abbrev pub summary_by : Form → Lookups → Option ℕ → Reckoning → List ℕ
summary_by Plain lookups idle r = plain.summary_in lookups idle r
summary_by Json lookups idle r = summary_in lookups idle r

-- those of a record
abbrev pub summary_as : Form → Lookups → Option ℕ → List LogEntry → List ℕ
summary_as form lookups idle past = summary_by form lookups idle (reckoning_of past)

-- why two packets went where they went
abbrev pub verdict_as : Form → Verdict → Bool → List ℕ
verdict_as Plain verdict drained = explained_text verdict drained
verdict_as Json verdict drained = verdict_json verdict drained

-- the same behind the lines of some events, with what the output begins with
abbrev pub explanation_as : Form → List ℕ → Verdict → Bool → List ℕ
explanation_as form lines verdict drained = (head_as form (codes "explain") ++ lines) ++ verdict_as form verdict drained
