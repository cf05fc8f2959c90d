-- A run over the first records of a capture, where the steps read no others, is a run over all of them.
use Rattle.std.proofs.Common.{◌≡◌, ◌≤◌, ◌<◌, ◌⊎◌, inl, inr, ℕ, zero, suc, ◌+◌, Bool, true, false, List, [], ◌∷◌, ◌++◌, length, take, reverse, Option, Some, None, refl, sym, ap, ◌∙◌, subst, arith, length-append}
use Rattle.std.specs.Prelude.{All, slice_get}
use Rattle.std.proofs.lemmas.List.{length-map}
use Rattle.ip_headers.specs.declared.Link.{Link}
use Rattle.pcap_file.specs.Format.{Record}
use Rattle.pool_versions.specs.declared.backend.Backend.{Backend}
use Rattle.cluster_node.specs.Rules.{Rules}
use Rattle.cluster_node.specs.declared.packets.Packet.{Packet}
use Rattle.cluster_node.specs.declared.events.LogEntry.{LogEntry}
use Rattle.event_trace.specs.Tally.{tally_of}
use Rattle.event_trace.specs.declared.steps.ScenarioStep.{ScenarioStep}
use Rattle.driver_commands.specs.Orders.{plan_of, orders_of, IsThere}
use Rattle.thread_records.specs.declared.command.Command.{Command}
use Rattle.thread_records.specs.declared.nodes.NodeRecord.{NodeRecord}
use Rattle.thread_records.specs.Joins.{all_events, all_outcomes}
use Rattle.thread_records.specs.Runs.{AreRuns}
use Rattle.json_lines.specs.declared.forms.Form.{Form}
use Rattle.connection_starts.specs.declared.ordinals.Ordinals.{Ordinals}
use Rattle.json_lines.specs.Forms.{places_as, summary_as}
use Rattle.scenario.specs.declared.plan.Scenario.{Scenario}
use Rattle.simulate_scenario.specs.Described.{choice_in, plan_in, lookups_in}
use Rattle.simulation.specs.Sent.{sent_at}
use Rattle.simulation.specs.Simulated.{traffic_of}
use Rattle.run_records.specs.Firsts.{IsSplit}
use Rattle.run_scenario.specs.PrivateFirsts.{kept_for, with_others, Settle}
use Rattle.run_scenario.specs.Runs.{packets_in, steps_in, commands_in, tally_in}
use Rattle.run_records.specs.Sends.{sent_by_nodes}
use Rattle.simulate_scenario.specs.Answers.{counts_if}
use Rattle.simulate_scenario.specs.Asked.{keeps_changes}
use Rattle.simulate_scenario.specs.Turned.{reckoned_by, turned_if, turned_summary_if, turned_counts_if}
use Rattle.run_scenario.specs.declared.running.RunOptions.{RunOptions}
use Rattle.run_scenario.specs.PrivateHistories.{said_whole, before_by, behind_by, counts_by}
use Rattle.run_scenario.proofs.Planned.{reads_all}
use Rattle.run_scenario.proofs.Offered.{NameAlike, runs_same}
use Rattle.run_scenario.proofs.Prefixes.{ReadFirst, read_first, packets_first, plan_first, orders_first, offered_first, tally_first}
use Rattle.run_scenario.proofs.Alike.{said_alike, nodes_alike}

in_front : (xs ys : List Record) (k : ℕ) → k < length xs → slice_get xs k ≡ slice_get (xs ++ ys) k
in_front [] ys k h = absurd (omega (arith, h))
in_front (x ∷ xs) ys zero h = refl
in_front (x ∷ xs) ys (suc k) h = in_front xs ys k (omega (arith, h))

module _ (s : Scenario) (link : Link) (kept all : List Record) (others : ℕ) (low : length kept + others ≤ 1000000000) (split : IsSplit (Settle s.steps.items) (kept_for s.steps.items) all kept others) where
  abbrev few_packets : List Packet
  few_packets = packets_in s link kept

  abbrev all_packets : List Packet
  all_packets = packets_in s link all

  abbrev nodes_of : ℕ
  nodes_of = length s.nodes.items

  abbrev steps_of : List ScenarioStep
  steps_of = steps_in s all

  first : few_packets ≡ take (length kept) all_packets
  first = packets_first (Settle s.steps.items) link s.check all kept (kept_for s.steps.items) others split

  reads_first : ReadFirst s.steps.items kept all
  reads_first = read_first s.steps.items all kept others low split

  within : (take (length kept) all_packets ≡ all_packets) ⊎ (reads_all steps_of ≤ length kept)
  within = elim reads_first.within [
    | inl same ↦ inl (sym first ∙ ap (λ (rs : List Record). packets_in s link rs) same)
    | inr few ↦ inr few
  ]

  same_plan : plan_of (choice_in s) few_packets steps_of nodes_of ≡ plan_of (choice_in s) all_packets steps_of nodes_of
  same_plan = subst (λ (ps : List Packet). plan_of (choice_in s) ps steps_of nodes_of ≡ plan_of (choice_in s) all_packets steps_of nodes_of) (sym first) (plan_first (choice_in s) all_packets (length kept) nodes_of steps_of within)

  -- the nodes are told the same
  pub same_commands : commands_in s link kept ≡ commands_in s link all
  same_commands =
      ap (λ (ss : List ScenarioStep). orders_of (choice_in s) few_packets ss nodes_of) reads_first.steps
      ∙ orders_first (choice_in s) few_packets all_packets nodes_of steps_of same_plan

  -- and offered no others
  pub told_there : All (λ cs. All (IsThere (length few_packets)) cs) (commands_in s link all)
  told_there =
      subst (λ (css : List (List Command)). All (λ cs. All (IsThere (length few_packets)) cs) css) (orders_first (choice_in s) few_packets all_packets nodes_of steps_of same_plan)
      (offered_first (choice_in s) few_packets nodes_of steps_of)

  many : length all_packets ≡ length few_packets + others
  many =
      let whole : length all_packets ≡ length all = length-map all _ in
      let some : length few_packets ≡ length kept = length-map kept _ in
      let both : length all ≡ length kept + length split.rest = ap (λ (rs : List Record). length rs) split.is ∙ length-append kept split.rest in
      omega (arith, whole, some, both, split.count)

  -- the same becomes of the records
  pub same_tally : with_others others (tally_in s link kept) ≡ tally_in s link all
  same_tally =
      ap (λ (n : ℕ). with_others others (tally_of n (plan_of (choice_in s) few_packets (steps_in s kept) nodes_of))) (sym (length-map kept _))
      ∙ ap (λ (ss : List ScenarioStep). with_others others (tally_of (length few_packets) (plan_of (choice_in s) few_packets ss nodes_of))) reads_first.steps
      ∙ tally_first (choice_in s) few_packets all_packets nodes_of others steps_of many same_plan
      ∙ ap (λ (n : ℕ). tally_of n (plan_of (choice_in s) all_packets steps_of nodes_of)) (length-map all _)

  both_runs : (rules : Rules) (ring : ℕ) (rs : List NodeRecord) → AreRuns rules few_packets ring 0 (commands_in s link all) rs → AreRuns rules all_packets ring 0 (commands_in s link all) rs × NameAlike few_packets all_packets (all_events rs)
  both_runs rules ring rs runs =
      subst (λ (ps : List Packet). AreRuns rules all_packets ring 0 (commands_in s link all) rs × NameAlike ps all_packets (all_events rs)) (sym first)
      (runs_same rules (length kept) ring 0 all_packets (commands_in s link all) rs
      (subst (λ (ps : List Packet). All (λ cs. All (IsThere (length ps)) cs) (commands_in s link all)) first told_there)
      (subst (λ (ps : List Packet). AreRuns rules ps ring 0 (commands_in s link all) rs) first runs))

  -- a run is one over all packets
  pub same_runs : (rules : Rules) (ring : ℕ) (rs : List NodeRecord) → AreRuns rules few_packets ring 0 (commands_in s link all) rs → AreRuns rules all_packets ring 0 (commands_in s link all) rs
  same_runs rules ring rs runs = (both_runs rules ring rs runs).0

  -- whose history says the same
  pub same_said : (rules : Rules) (ring : ℕ) (rs : List NodeRecord) → AreRuns rules few_packets ring 0 (commands_in s link all) rs → said_whole few_packets rs ≡ said_whole all_packets rs
  same_said rules ring rs runs = ap (λ (l : List LogEntry). reverse l) (said_alike few_packets all_packets (all_events rs) (all_outcomes rs) (both_runs rules ring rs runs).1)

  among : (n k : ℕ) (b : Backend) → k < length few_packets → sent_at (traffic_of (plan_in s) link kept) n b (slice_get kept k) ≡ sent_at (traffic_of (plan_in s) link all) n b (slice_get all k)
  among n k b lt =
      let some : length few_packets ≡ length kept = length-map kept _ in
      let here : slice_get kept k ≡ slice_get all k = in_front kept split.rest k (omega (arith, lt, some)) ∙ ap (λ (rs : List Record). slice_get rs k) (sym split.is) in
      ap (λ (r : Option Record). sent_at (traffic_of (plan_in s) link all) n b r) here

  -- and sends the same
  pub same_sent : (rules : Rules) (ring : ℕ) (rs : List NodeRecord) → AreRuns rules few_packets ring 0 (commands_in s link all) rs → sent_by_nodes (traffic_of (plan_in s) link kept) rs ≡ sent_by_nodes (traffic_of (plan_in s) link all) rs
  same_sent rules ring rs runs = nodes_alike (traffic_of (plan_in s) link kept) (traffic_of (plan_in s) link all) (length few_packets) among rules few_packets ring 0 (commands_in s link all) rs told_there runs

-- what is told of the splits, by what the histories say
pub splits_said : (turns : Option Ordinals) (form : Form) (places splits : Bool) (s : Scenario) (few all : List Packet) (rs : List NodeRecord) → said_whole few rs ≡ said_whole all rs
    → before_by turns form places splits s few rs ≡ before_by turns form places splits s all rs
splits_said None form true splits s few all rs same = ap (λ (l : List LogEntry). places_as form (lookups_in s) s.idle l) same
splits_said None form false true s few all rs same = refl
splits_said None form false false s few all rs same = refl
splits_said (Some o) form places splits s few all rs same = ap (λ (l : List LogEntry). turned_if form places splits (lookups_in s) s.idle (reckoned_by o l)) same

pub summary_said : (turns : Option Ordinals) (form : Form) (summary : Bool) (s : Scenario) (few all : List Packet) (rs : List NodeRecord) → said_whole few rs ≡ said_whole all rs
    → behind_by turns form summary s few rs ≡ behind_by turns form summary s all rs
summary_said None form true s few all rs same = ap (λ (l : List LogEntry). summary_as form (lookups_in s) s.idle l) same
summary_said None form false s few all rs same = refl
summary_said (Some o) form summary s few all rs same = ap (λ (l : List LogEntry). turned_summary_if form summary (lookups_in s) s.idle (reckoned_by o l)) same

pub counts_said : (turns : Option Ordinals) (options : RunOptions) (few all : List Packet) (rs : List NodeRecord) → said_whole few rs ≡ said_whole all rs → counts_by turns options few rs ≡ counts_by turns options all rs
counts_said None options few all rs same = ap (λ (l : List LogEntry). counts_if (keeps_changes options.places options.summary) l) same
counts_said (Some o) options few all rs same = ap (λ (l : List LogEntry). turned_counts_if (keeps_changes options.places options.summary) o l) same
