use Rattle.std.proofs.Common.{◌≡◌, ◌+◌, ◌≤◌, ℕ, ◌∙◌, ◌++◌, Bool, true, List, length, map, ap, sym, subst, arith}
use Rattle.std.proofs.lemmas.List.{length-map}
use Rattle.driver_commands.proofs.Telling.{below_long}
use Rattle.driver_commands.specs.Orders.{orders_of, orders_on}
use Rattle.thread_records.specs.declared.command.Command.{Command}
use Rattle.thread_records.specs.Runs.{AreRuns}
use Rattle.thread_roles.specs.Counts.{AreRead}
use Rattle.cluster_core.specs.declared.counts.Totals.{Totals}
use Rattle.cluster_node.specs.declared.outcomes.Outcome.{Outcome}
use Rattle.cluster_node.specs.declared.packets.Packet.{Packet}
use Rattle.cluster_node.specs.declared.events.LogEntry.{LogEntry}
use Rattle.event_trace.specs.Steps.{below}
use Rattle.event_trace.specs.declared.play.Tally.{Tally}
use Rattle.simulate_scenario.specs.Answers.{totals_in, is_cut}
use Rattle.simulate_scenario.specs.Described.{rules_in, choice_in}
use Rattle.node_threads.proofs.Settled.{all_settled}
use Rattle.json_lines.specs.Forms.{shares_as}
use Rattle.run_scenario.specs.PrivateHistories.{AreEven, said_whole, before_by, behind_by, counts_by}
use Rattle.run_scenario.specs.Runs.{begun, audited_report, asked_shares, record_with, tally_in, packets_in, commands_in, steps_in}
use Rattle.run_scenario.specs.Turned.{told_splits}
use Rattle.run_scenario.specs.PrivateFirsts.{with_others}
use Rattle.run_scenario.proofs.InWords.{packets_are, tally_is}
use Rattle.run_scenario.proofs.FirstRuns.{same_commands, same_tally, same_runs, same_said, same_sent, splits_said, summary_said, counts_said}
use Rattle.run_scenario.proofs.OneByOne.{are_even, history_of, joins, same_splits, same_shares, same_summary, same_counts, same_outcomes}
use Rattle.run_scenario.proofs.running.run_over.Goals as goal

pub run_named-requires-clause-nodes : goal.run_named-requires-clause-nodes
run_named-requires-clause-nodes g c κs within =
    sym (length-map c.in_ok-orders.orders.commands.items (λ l. l.items)) ∙ ap (λ l. length l) c.in_ok-orders.ensures.commands
    ∙ length-map (below (length c.args.scenario.now.nodes.items)) (orders_on (choice_in c.args.scenario.now) c.as_slice.result.now (steps_in c.args.scenario.now c.args.captured.now.records) (length c.args.scenario.now.nodes.items)) ∙ below_long (length c.args.scenario.now.nodes.items)

pub totals_of-totals-requires-clause-settled : goal.totals_of-totals-requires-clause-settled
totals_of-totals-requires-clause-settled g c =
    let s = c.args.scenario.now in
    let commands : List (List Command) = map (λ l. l.items) c.in_ok-orders.orders.commands.items in
    let nodes = c.in_ok-audited.audited.run.nodes.items in
    let runs : AreRuns (rules_in s) c.as_slice-2.result.now s.ring 0 commands nodes = c.in_ok-audited.ensures.runs in
    let lists : length commands ≡ length c.in_ok-orders.orders.commands.items = length-map c.in_ok-orders.orders.commands.items (λ l. l.items) in
    let asked : length c.in_ok-orders.orders.commands.items ≡ length s.nodes.items =
    sym (length-map c.in_ok-orders.orders.commands.items (λ l. l.items)) ∙ ap (λ l. length l) c.in_ok-orders.ensures.commands
    ∙ length-map (below (length s.nodes.items)) (orders_on (choice_in s) c.as_slice.result.now (steps_in s c.args.captured.now.records) (length s.nodes.items)) ∙ below_long (length s.nodes.items) in
    let within : 0 + length commands ≤ length s.nodes.items = omega (arith, lists, asked) in
    all_settled (rules_in s) c.as_slice-2.result.now s.ring 0 commands nodes within (subst (λ (ps : List Packet). AreRead ps) (sym c.as_slice-2.ensures.value) c.in_ok-packets.ensures.read) runs

pub with_others-tally-requires-clause-packets : goal.with_others-tally-requires-clause-packets
with_others-tally-requires-clause-packets g c =
    let slice : length c.as_slice.result.now ≡ length c.in_ok-packets.packets.items = ap (λ (l : List Packet). length l) c.as_slice.ensures.value in
    let all : c.in_ok-orders.orders.tally.packets ≡ length c.as_slice.result.now = ap (λ (t : Tally). t.packets) c.in_ok-orders.ensures.tally in
    omega (arith, slice, all, c.in_ok-packets.ensures.count, c.requires.few)

pub with_others-tally-requires-clause-left : goal.with_others-tally-requires-clause-left
with_others-tally-requires-clause-left g c =
    let slice : length c.as_slice.result.now ≡ length c.in_ok-packets.packets.items = ap (λ (l : List Packet). length l) c.as_slice.ensures.value in
    let rest = ap (λ (t : Tally). t.left) c.in_ok-orders.ensures.tally in
    omega (arith, slice, rest, c.in_ok-packets.ensures.count, c.requires.few)

pub returns-clause-over : goal.returns-clause-over
returns-clause-over g c = λ all split.
    let s = c.args.scenario.now in
    let link = c.args.captured.now.head.link in
    let kept = c.args.captured.now.records in
    let others = c.args.captured.now.others in
    let ending = c.args.captured.now.ending in
    let run = c.in_ok-audited.audited.run in
    let o = c.args.asked.options in
    let turns = c.args.asked.turns in
    let commands = map (λ l. l.items) c.in_ok-orders.orders.commands.items in
    let read : c.in_ok-packets.packets.items ≡ packets_in s link kept = c.in_ok-packets.ensures.packets ∙ packets_are s c.wire_of-wire.result link c.args.captured.now.records c.wire_of-wire.ensures.link c.wire_of-wire.ensures.check in
    let first : c.as_slice.result.now ≡ packets_in s link kept = c.as_slice.ensures.value ∙ read in
    let are : c.as_slice-2.result.now ≡ packets_in s link kept = c.as_slice-2.ensures.value ∙ read in
    let told : commands ≡ commands_in s link all =
    c.in_ok-orders.ensures.commands ∙ ap (λ (l : List Packet). orders_of (choice_in s) l (steps_in s kept) (length s.nodes.items)) first
    ∙ same_commands s link kept all others c.requires.few split in
    let few_runs : AreRuns (rules_in s) (packets_in s link kept) s.ring 0 (commands_in s link all) run.nodes.items =
    subst (λ (ps : List Packet). AreRuns (rules_in s) ps s.ring 0 (commands_in s link all) run.nodes.items) are
    (subst (λ (cs : List (List Command)). AreRuns (rules_in s) c.as_slice-2.result.now s.ring 0 cs run.nodes.items) told c.in_ok-audited.ensures.runs) in
    let runs : AreRuns (rules_in s) (packets_in s link all) s.ring 0 (commands_in s link all) run.nodes.items = same_runs s link kept all others c.requires.few split (rules_in s) s.ring run.nodes.items few_runs in
    let said : said_whole (packets_in s link kept) run.nodes.items ≡ said_whole (packets_in s link all) run.nodes.items = same_said s link kept all others c.requires.few split (rules_in s) s.ring run.nodes.items few_runs in
    let even : AreEven run.nodes.items = are_even (rules_in s) (packets_in s link all) s.ring 0 (commands_in s link all) run.nodes.items runs in
    let few = c.in_ok-audited.ensures.few in
    let tally : c.with_others-tally.result ≡ tally_in s link all =
    c.with_others-tally.ensures ∙ ap (λ (t : Tally). with_others others t) (c.in_ok-orders.ensures.tally ∙ tally_is s link kept c.as_slice.result.now first)
    ∙ same_tally s link kept all others c.requires.few split in
    record {
      history = history_of run even few;
      run = record { runs = runs; joins = joins (rules_in s) (packets_in s link all) s.ring (commands_in s link all) run even few runs };
      report =
          let whole = told_splits turns o.form o.places o.splits s (packets_in s link all) (history_of run even few) in
          let audited = audited_report o.form (tally_in s link all) (totals_in (history_of run even few).outcomes.items) (is_cut ending) true in
          let shares = shares_as o.form (asked_shares o) (record_with (packets_in s link all) (history_of run even few)) in
          c.in_ok-push_str-4.ensures.bytes
          ∙ ap (λ (l : List ℕ). l ++ c.as_str-4.result.now) (c.in_ok-push_str-3.ensures.bytes
          ∙ ap (λ (l : List ℕ). l ++ c.as_str-3.result.now) (c.in_ok-push_str-2.ensures.bytes
          ∙ ap (λ (l : List ℕ). l ++ c.as_str-2.result.now) (c.in_ok-push_str.ensures.bytes
          ∙ ap (λ (l : List ℕ). l ++ c.as_str.result.now) (c.in_ok-push_head.ensures ∙ ap (λ (l : List ℕ). l ++ begun o.form) c.new-text.ensures.bytes)
          ∙ ap (λ (l : List ℕ). begun o.form ++ l) (c.as_str.ensures.value ∙ c.in_ok-audited.ensures.told.before
          ∙ ap (λ (ps : List Packet). before_by turns o.form o.places o.splits s ps run.nodes.items) are
          ∙ splits_said turns o.form o.places o.splits s (packets_in s link kept) (packets_in s link all) run.nodes.items said ∙ same_splits turns o.form o.places o.splits s (packets_in s link all) run even few))
          ∙ ap (λ (l : List ℕ). (begun o.form ++ whole) ++ l) (c.as_str-2.ensures.value ∙ c.in_ok-report.ensures
          ∙ ap (λ (t : Tally). audited_report o.form t c.totals_of-totals.result (is_cut ending) c.in_ok-audited.audited.agrees) tally
          ∙ ap (λ (t : Totals). audited_report o.form (tally_in s link all) t (is_cut ending) c.in_ok-audited.audited.agrees) (c.totals_of-totals.ensures ∙ ap (λ (os : List Outcome). totals_in os) (same_outcomes run even few))
          ∙ ap (λ (b : Bool). audited_report o.form (tally_in s link all) (totals_in (history_of run even few).outcomes.items) (is_cut ending) b) c.in_ok-audited.ensures.audit))
          ∙ ap (λ (l : List ℕ). ((begun o.form ++ whole) ++ audited) ++ l) (c.as_str-3.ensures.value ∙ c.in_ok-audited.ensures.told.shares
          ∙ ap (λ (ps : List Packet). shares_as o.form (asked_shares o) (said_whole ps run.nodes.items)) are
          ∙ ap (λ (l : List LogEntry). shares_as o.form (asked_shares o) l) said ∙ same_shares o.form (asked_shares o) (packets_in s link all) run even few))
          ∙ ap (λ (l : List ℕ). (((begun o.form ++ whole) ++ audited) ++ shares) ++ l)
          (c.as_str-4.ensures.value ∙ c.in_ok-audited.ensures.told.behind ∙ ap (λ (ps : List Packet). behind_by turns o.form o.summary s ps run.nodes.items) are
          ∙ summary_said turns o.form o.summary s (packets_in s link kept) (packets_in s link all) run.nodes.items said ∙ same_summary turns o.form o.summary s (packets_in s link all) run even few);
      counted = c.in_ok-audited.ensures.told.counts ∙ ap (λ (ps : List Packet). counts_by turns o ps run.nodes.items) are
          ∙ counts_said turns o (packets_in s link kept) (packets_in s link all) run.nodes.items said ∙ same_counts turns o s link all run even few;
    }

pub returns-clause-sends : goal.returns-clause-sends
returns-clause-sends g c = λ all split.
    let s = c.args.scenario.now in
    let link = c.args.captured.now.head.link in
    let kept = c.args.captured.now.records in
    let others = c.args.captured.now.others in
    let commands = map (λ l. l.items) c.in_ok-orders.orders.commands.items in
    let read : c.in_ok-packets.packets.items ≡ packets_in s link kept = c.in_ok-packets.ensures.packets ∙ packets_are s c.wire_of-wire.result link c.args.captured.now.records c.wire_of-wire.ensures.link c.wire_of-wire.ensures.check in
    let first : c.as_slice.result.now ≡ packets_in s link kept = c.as_slice.ensures.value ∙ read in
    let are : c.as_slice-2.result.now ≡ packets_in s link kept = c.as_slice-2.ensures.value ∙ read in
    let told : commands ≡ commands_in s link all =
    c.in_ok-orders.ensures.commands ∙ ap (λ (l : List Packet). orders_of (choice_in s) l (steps_in s kept) (length s.nodes.items)) first
    ∙ same_commands s link kept all others c.requires.few split in
    let few_runs : AreRuns (rules_in s) (packets_in s link kept) s.ring 0 (commands_in s link all) c.in_ok-audited.audited.run.nodes.items =
    subst (λ (ps : List Packet). AreRuns (rules_in s) ps s.ring 0 (commands_in s link all) c.in_ok-audited.audited.run.nodes.items) are
    (subst (λ (cs : List (List Command)). AreRuns (rules_in s) c.as_slice-2.result.now s.ring 0 cs c.in_ok-audited.audited.run.nodes.items) told c.in_ok-audited.ensures.runs) in
    same_sent s link kept all others c.requires.few split (rules_in s) s.ring c.in_ok-audited.audited.run.nodes.items few_runs
