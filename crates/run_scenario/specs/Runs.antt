-- The run of a scenario's cluster on threads over a capture that was read whole.
use Rattle.std.specs.Prelude.{◌≡◌, ◌⊎◌, ℕ, Bool, true, false, List, [], ◌∷◌, ◌++◌, length, map, reverse, codes, Option, None}
use Rattle.std.specs.Io.KnownBytes.{Appends}
use Rattle.ip_headers.specs.declared.Link.{Link}
use Rattle.pcap_file.specs.declared.format.Head.{Head}
use Rattle.pcap_file.specs.declared.format.InputEnd.{InputEnd}
use Rattle.pcap_file.specs.Device.{Tape, Unfailed}
use Rattle.pcap_file.specs.Format.{Record}
use Rattle.cluster_node.specs.declared.packets.Packet.{Packet}
use Rattle.cluster_node.specs.declared.events.Event.{Event}
use Rattle.cluster_node.specs.declared.events.LogEntry.{LogEntry}
use Rattle.cluster_node.specs.declared.outcomes.Outcome.{Outcome}
use Rattle.cluster_core.specs.Runs.{packet_of}
use Rattle.run_report.specs.Splits.{said_of}
use Rattle.traffic_shares.specs.declared.books.AskedShares.{AskedShares}
use Rattle.json_lines.specs.declared.forms.Form.{Form}
use Rattle.json_lines.specs.Forms.{head_as, splits_as, places_as, report_as, audit_as, shares_as, summary_as}
use Rattle.cluster_core.specs.declared.counts.Totals.{Totals}
use Rattle.event_trace.specs.declared.play.Tally.{Tally}
use Rattle.event_trace.specs.Tally.{tally_of}
use Rattle.event_trace.specs.declared.steps.ScenarioStep.{ScenarioStep}
use Rattle.timed_steps.specs.Timed.{counted}
use Rattle.driver_commands.specs.Knowing.{first_unsupported_in}
use Rattle.driver_commands.specs.Orders.{orders_of, plan_of}
use Rattle.thread_records.specs.declared.command.Command.{Command}
use Rattle.thread_records.specs.declared.nodes.NodeRecord.{NodeRecord}
use Rattle.thread_records.specs.declared.nodes.History.{History}
use Rattle.thread_records.specs.Runs.{AreRuns, JoinsRuns}
use Rattle.scenario.specs.declared.plan.Scenario.{Scenario}
use Rattle.simulate_scenario.specs.Described.{rules_in, choice_in, plan_in, lookups_in}
use Rattle.simulate_scenario.specs.Answers.{totals_in, is_cut, counts_if}
use Rattle.simulate_scenario.specs.Asked.{keeps_changes}
use Rattle.change_share.specs.declared.counts.ChangeCounts.{ChangeCounts}
use Rattle.simulation.specs.declared.fault.SimulationFault.{SimulationFault}
use Rattle.simulation.specs.declared.fault.SimulationFault.TheVariants.{Memory}
use Rattle.simulation.specs.Sent.{time_of, packets_of, capture_text}
use Rattle.simulation.specs.Simulated.{traffic_of, CaptureUntil, IsOfRun}
use Rattle.run_scenario.specs.declared.running.RunOptions.{RunOptions}
use Rattle.run_scenario.specs.declared.failure.RunFailure.{RunFailure}
use Rattle.run_scenario.specs.declared.failure.RunFailure.TheVariants.{Simulation, Threads}
use Rattle.run_records.specs.Inputs.{IsReadWhole, WholeWasRead, ReadingFails}
use Rattle.run_records.specs.Sends.{sent_by_nodes}

abbrev pub packets_in : Scenario → Link → List Record → List Packet
packets_in s link records = packets_of link s.check records

-- the steps by count that the scenario's steps are over the records
abbrev pub steps_in : Scenario → List Record → List ScenarioStep
steps_in s records = counted (map time_of records) s.steps.items

-- what the scenario's steps, with the choices of its spreader, tell each node, and what they mean for the records
abbrev pub commands_in : Scenario → Link → List Record → List (List Command)
commands_in s link records = orders_of (choice_in s) (packets_in s link records) (steps_in s records) (length s.nodes.items)

abbrev pub tally_in : Scenario → Link → List Record → Tally
tally_in s link records = tally_of (length records) (plan_of (choice_in s) (packets_in s link records) (steps_in s records) (length s.nodes.items))

-- the records and the history of a run in which each node did what the steps tell it
pub record AreOfRun (s : Scenario) (link : Link) (records : List Record) (nodes : List NodeRecord) (history : History) : Type 0 where
  pub runs : AreRuns (rules_in s) (packets_in s link records) s.ring 0 (commands_in s link records) nodes
  pub joins : JoinsRuns (rules_in s) (packets_in s link records) nodes history

-- the record of a history, which has the newest event in front; the packets of arrivals are left out
abbrev pub record_of : History → List LogEntry
record_of h = reverse (said_of h.events.items h.outcomes.items)

-- what is said by a history's events and the outcome of each, the oldest in front, with the packets that arrivals name
abbrev pub said_with : List Packet → List Event → List Outcome → List LogEntry
said_with packets [] os = []
said_with packets (e ∷ es) [] = []
said_with packets (e ∷ es) (o ∷ os) = record { event = e; packet = packet_of packets e; outcome = o } ∷ said_with packets es os

-- the record of a history with the packets of arrivals
abbrev pub record_with : List Packet → History → List LogEntry
record_with packets h = reverse (said_with packets h.events.items h.outcomes.items)

-- what is reported of the splits of a history, where it is asked for: with places, or without
abbrev pub splits_if : Form → Bool → Bool → Scenario → List Packet → History → List ℕ
splits_if form true splits s packets h = places_as form (lookups_in s) s.idle (record_with packets h)
splits_if form false true s packets h = splits_as form (lookups_in s) (record_of h)
splits_if form false false s packets h = []

-- how many connections changed their server, and why, where it is asked for
abbrev pub summary_if : Form → Bool → Scenario → List Packet → History → List ℕ
summary_if form true s packets h = summary_as form (lookups_in s) s.idle (record_with packets h)
summary_if form false s packets h = []

-- how many connections there were, and how many of them changed their server, where the changes are kept
abbrev pub counts_in : Scenario → RunOptions → Link → List Record → History → Option ChangeCounts
counts_in s options link records h = counts_if (keeps_changes options.places options.summary) (record_with (packets_in s link records) h)

-- whose shares are asked for
abbrev pub asked_shares : RunOptions → AskedShares
asked_shares o = record { backends = o.backends; nodes = o.nodes }

-- the report, and whether a replay of the history's events gives the outcomes that it has
abbrev pub audited_report : Form → Tally → Totals → Bool → Bool → List ℕ
audited_report form tally totals cut agrees = report_as form tally totals cut ++ audit_as form agrees

-- what it begins with
abbrev pub begun : Form → List ℕ
begun form = head_as form (codes "run")

-- the report of a run by its history, with what is asked for before it and behind it
abbrev pub report_in : Scenario → RunOptions → Link → List Record → InputEnd → History → List ℕ
report_in s options link records ending h =
    (((begun options.form ++ splits_if options.form options.places options.splits s (packets_in s link records) h)
    ++ audited_report options.form (tally_in s link records) (totals_in h.outcomes.items) (is_cut ending) true)
    ++ shares_as options.form (asked_shares options) (record_with (packets_in s link records) h))
    ++ summary_if options.form options.summary s (packets_in s link records) h

-- A cluster on threads knows each step, and it ran over the whole input. The output got the capture of what the nodes sent,
-- node by node and life by life. The text is the report of that run, with what is asked for before it and behind it.
pub record Ran (s : Scenario) (options : RunOptions) (input input' output output' : Tape) (text : List ℕ) : Type 0 where
  pub known : first_unsupported_in s.steps.items ≡ None
  pub head : Head
  pub records : List Record
  pub ending : InputEnd
  pub read : IsReadWhole input input' head records ending
  pub nodes : List NodeRecord
  pub history : History
  pub run : AreOfRun s head.link records nodes history
  pub written : Appends output.bytes output'.bytes (capture_text (sent_by_nodes (traffic_of (plan_in s) head.link records) nodes))
  pub unfailed : Unfailed output output'
  pub report : text ≡ report_in s options head.link records ending history

-- the same up to the output, which got a prefix of that capture; it is cut between records, unless writing failed
pub record BreaksOff (fault : SimulationFault) (s : Scenario) (input input' output output' : Tape) : Type 0 where
  pub head : Head
  pub records : List Record
  pub ending : InputEnd
  pub read : IsReadWhole input input' head records ending
  pub nodes : List NodeRecord
  pub history : History
  pub run : AreOfRun s head.link records nodes history
  pub not_reading : IsOfRun fault
  pub wrote : CaptureUntil fault output output' (sent_by_nodes (traffic_of (plan_in s) head.link records) nodes)

-- The run stopped by this fault. A fault of reading, a fault of the threads, and a refusal of memory before the output was begun
-- leave the output as it was.
abbrev pub Halted : Scenario → Tape → Tape → Tape → Tape → RunFailure → Type 0
Halted s input input' output output' (Threads fault) = WholeWasRead input input' × (output' ≡ output)
Halted s input input' output output' (Simulation fault) =
    (ReadingFails fault input input' × (output' ≡ output))
    ⊎ (((fault ≡ Memory) × WholeWasRead input input' × (output' ≡ output)) ⊎ BreaksOff fault s input input' output output')
