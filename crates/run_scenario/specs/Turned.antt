-- A run of which the connections are told by the ordinals of the capture's records, where there are any: a flow that begins again
-- is another connection then.
use Rattle.std.specs.Prelude.{◌≡◌, ℕ, Bool, true, List, ◌++◌, Option, Some, None}
use Rattle.std.specs.Io.KnownBytes.{Appends}
use Rattle.ip_headers.specs.declared.Link.{Link}
use Rattle.pcap_file.specs.declared.format.Head.{Head}
use Rattle.pcap_file.specs.declared.format.InputEnd.{InputEnd}
use Rattle.pcap_file.specs.Device.{Tape, Unfailed}
use Rattle.pcap_file.specs.Format.{Record}
use Rattle.cluster_node.specs.declared.packets.Packet.{Packet}
use Rattle.connection_starts.specs.declared.ordinals.Ordinals.{Ordinals}
use Rattle.json_lines.specs.declared.forms.Form.{Form}
use Rattle.json_lines.specs.Forms.{shares_as}
use Rattle.driver_commands.specs.Knowing.{first_unsupported_in}
use Rattle.thread_records.specs.declared.nodes.NodeRecord.{NodeRecord}
use Rattle.thread_records.specs.declared.nodes.History.{History}
use Rattle.thread_records.specs.Paced.{NoneRefused}
use Rattle.scenario.specs.declared.plan.Scenario.{Scenario}
use Rattle.simulate_scenario.specs.Answers.{totals_in, is_cut}
use Rattle.simulate_scenario.specs.Asked.{keeps_changes}
use Rattle.simulate_scenario.specs.Described.{plan_in, lookups_in}
use Rattle.simulate_scenario.specs.Turned.{reckoned_by, turned_if, turned_summary_if, turned_counts_if}
use Rattle.simulation.specs.Sent.{capture_text}
use Rattle.simulation.specs.Simulated.{traffic_of}
use Rattle.change_share.specs.declared.counts.ChangeCounts.{ChangeCounts}
use Rattle.run_scenario.specs.declared.running.RunOptions.{RunOptions}
use Rattle.run_records.specs.Inputs.{IsReadWhole}
use Rattle.run_scenario.specs.Kept.{KeepsPromises}
use Rattle.run_records.specs.Sends.{sent_by_nodes}
use Rattle.run_scenario.specs.Runs.{AreOfRun, packets_in, tally_in, record_with, splits_if, summary_if, counts_in, begun, audited_report, asked_shares}

-- what is reported of the splits of a history, where it is asked for: with places, or without
abbrev pub told_splits : Option Ordinals → Form → Bool → Bool → Scenario → List Packet → History → List ℕ
told_splits None form places splits s packets h = splits_if form places splits s packets h
told_splits (Some o) form places splits s packets h = turned_if form places splits (lookups_in s) s.idle (reckoned_by o (record_with packets h))

-- how many connections changed their server, and why, where it is asked for
abbrev pub told_summary : Option Ordinals → Form → Bool → Scenario → List Packet → History → List ℕ
told_summary None form summary s packets h = summary_if form summary s packets h
told_summary (Some o) form summary s packets h = turned_summary_if form summary (lookups_in s) s.idle (reckoned_by o (record_with packets h))

-- how many connections there were, and how many of them changed their server, where the changes are kept
abbrev pub told_counts : Option Ordinals → Scenario → RunOptions → Link → List Record → History → Option ChangeCounts
told_counts None s options link records h = counts_in s options link records h
told_counts (Some o) s options link records h = turned_counts_if (keeps_changes options.places options.summary) o (record_with (packets_in s link records) h)

-- the report of a run by its history, with what is asked for before it and behind it
abbrev pub told_report : Option Ordinals → Scenario → RunOptions → Link → List Record → InputEnd → History → List ℕ
told_report turns s options link records ending h =
    (((begun options.form ++ told_splits turns options.form options.places options.splits s (packets_in s link records) h)
    ++ audited_report options.form (tally_in s link records) (totals_in h.outcomes.items) (is_cut ending) true)
    ++ shares_as options.form (asked_shares options) (record_with (packets_in s link records) h))
    ++ told_summary turns options.form options.summary s (packets_in s link records) h

-- A cluster on threads knows each step, and it ran over the whole input. The output got the capture of what the nodes sent,
-- node by node and life by life. The text is the report of that run, with what is asked for before it and behind it, and these
-- are the counts of its connections. The run keeps the promises, and where it is paced no ring refused a packet.
pub record RanBy (turns : Option Ordinals) (s : Scenario) (options : RunOptions) (input input' output output' : Tape) (text : List ℕ)
    (counts : Option ChangeCounts) : Type 0 where
  pub known : first_unsupported_in s.steps.items ≡ None
  pub head : Head
  pub records : List Record
  pub ending : InputEnd
  pub read : IsReadWhole input input' head records ending
  pub nodes : List NodeRecord
  pub history : History
  pub run : AreOfRun s head.link records nodes history
  pub written : Appends output.bytes output'.bytes (capture_text (sent_by_nodes (traffic_of (plan_in s) head.link records) nodes))
  pub unfailed : Unfailed output output'
  pub report : text ≡ told_report turns s options head.link records ending history
  pub counted : counts ≡ told_counts turns s options head.link records history
  pub kept : KeepsPromises s head.link records history
  pub paced : options.paced ≡ true → NoneRefused nodes
