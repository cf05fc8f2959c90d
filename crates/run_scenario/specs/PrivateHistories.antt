-- What is told of the nodes' histories, one after another.
use Rattle.std.specs.Prelude.{◌≡◌, ℕ, Bool, true, false, List, [], length, reverse, Option, Some, None, string_bytes}
use Rattle.std.specs.List.{All}
use Rattle.ip_headers.specs.declared.Link.{Link}
use Rattle.pcap_file.specs.declared.format.InputEnd.{InputEnd}
use Rattle.pcap_file.specs.Format.{Record}
use Rattle.cluster_node.specs.declared.packets.Packet.{Packet}
use Rattle.cluster_node.specs.declared.events.LogEntry.{LogEntry}
use Rattle.run_report.specs.Splits.{said_of}
use Rattle.connection_starts.specs.declared.ordinals.Ordinals.{Ordinals}
use Rattle.json_lines.specs.declared.forms.Form.{Form}
use Rattle.json_lines.specs.Forms.{splits_as, places_as, shares_as, summary_as}
use Rattle.thread_records.specs.declared.nodes.NodeRecord.{NodeRecord}
use Rattle.thread_records.specs.declared.nodes.History.{History}
use Rattle.thread_records.specs.Joins.{all_events, all_outcomes}
use Rattle.scenario.specs.declared.plan.Scenario.{Scenario}
use Rattle.change_share.specs.declared.counts.ChangeCounts.{ChangeCounts}
use Rattle.simulate_scenario.specs.Answers.{counts_if}
use Rattle.simulate_scenario.specs.Asked.{keeps_changes}
use Rattle.simulate_scenario.specs.Described.{lookups_in}
use Rattle.simulate_scenario.specs.Turned.{reckoned_by, turned_if, turned_summary_if, turned_counts_if}
use Rattle.run_scenario.specs.declared.histories.Told.{Told}
use Rattle.run_scenario.specs.declared.running.RunOptions.{RunOptions}
use Rattle.run_scenario.specs.Runs.{AreOfRun, said_with, asked_shares}
use Rattle.run_scenario.specs.Turned.{told_report, told_counts}

-- each node has as many outcomes as events
abbrev pub AreEven : List NodeRecord → Type 0
AreEven nodes = All (λ r. length r.outcomes.items ≡ length r.events.items) nodes

-- what the histories say, the newest event in front
abbrev pub said_by : List NodeRecord → List LogEntry
said_by nodes = reverse (said_of (all_events nodes) (all_outcomes nodes))

-- the same with the packets of arrivals
abbrev pub said_whole : List Packet → List NodeRecord → List LogEntry
said_whole packets nodes = reverse (said_with packets (all_events nodes) (all_outcomes nodes))

-- what is reported of their splits, where it is asked for: with places, or without
abbrev pub splits_over : Form → Bool → Bool → Scenario → List Packet → List NodeRecord → List ℕ
splits_over form true splits s packets nodes = places_as form (lookups_in s) s.idle (said_whole packets nodes)
splits_over form false true s packets nodes = splits_as form (lookups_in s) (said_by nodes)
splits_over form false false s packets nodes = []

-- how many connections changed their server, and why, where it is asked for
abbrev pub summary_over : Form → Bool → Scenario → List Packet → List NodeRecord → List ℕ
summary_over form true s packets nodes = summary_as form (lookups_in s) s.idle (said_whole packets nodes)
summary_over form false s packets nodes = []

-- how many connections there were, and how many of them changed their server, where the changes are kept
abbrev pub counts_over : RunOptions → List Packet → List NodeRecord → Option ChangeCounts
counts_over options packets nodes = counts_if (keeps_changes options.places options.summary) (said_whole packets nodes)

-- what is reported of the splits, by the ordinals of the records, where there are any
abbrev pub before_by : Option Ordinals → Form → Bool → Bool → Scenario → List Packet → List NodeRecord → List ℕ
before_by None form places splits s packets nodes = splits_over form places splits s packets nodes
before_by (Some o) form places splits s packets nodes = turned_if form places splits (lookups_in s) s.idle (reckoned_by o (said_whole packets nodes))

-- the summary, in the same way
abbrev pub behind_by : Option Ordinals → Form → Bool → Scenario → List Packet → List NodeRecord → List ℕ
behind_by None form summary s packets nodes = summary_over form summary s packets nodes
behind_by (Some o) form summary s packets nodes = turned_summary_if form summary (lookups_in s) s.idle (reckoned_by o (said_whole packets nodes))

-- the counts, in the same way
abbrev pub counts_by : Option Ordinals → RunOptions → List Packet → List NodeRecord → Option ChangeCounts
counts_by None options packets nodes = counts_over options packets nodes
counts_by (Some o) options packets nodes = turned_counts_if (keeps_changes options.places options.summary) o (said_whole packets nodes)

-- what is told of them beside the report
pub record TellsOf (turns : Option Ordinals) (options : RunOptions) (s : Scenario) (packets : List Packet) (nodes : List NodeRecord)
    (told : Told) : Type 0 where
  pub before : string_bytes told.before ≡ before_by turns options.form options.places options.splits s packets nodes
  pub shares : string_bytes told.shares ≡ shares_as options.form (asked_shares options) (said_whole packets nodes)
  pub behind : string_bytes told.behind ≡ behind_by turns options.form options.summary s packets nodes
  pub counts : told.counts ≡ counts_by turns options packets nodes

-- the records of a run, its report, and the counts of its connections
pub record RanOver (turns : Option Ordinals) (s : Scenario) (options : RunOptions) (link : Link) (records : List Record) (ending : InputEnd)
    (nodes : List NodeRecord)
    (text : List ℕ) (counts : Option ChangeCounts) : Type 0 where
  pub history : History
  pub run : AreOfRun s link records nodes history
  pub report : text ≡ told_report turns s options link records ending history
  pub counted : counts ≡ told_counts turns s options link records history
