-- What is told of a run, in the scenario's own words.
use Rattle.std.proofs.Common.{◌≡◌, ◌≤◌, ℕ, List, length, ap, sym, ◌∙◌, subst, Result}
use Rattle.std.specs.Prelude.{IfOk}
use Rattle.std.proofs.lemmas.List.{length-map}
use Rattle.ip_headers.specs.declared.Link.{Link}
use Rattle.pcap_file.specs.Format.{Record}
use Rattle.cluster_node.specs.Rules.{Rules}
use Rattle.cluster_node.specs.declared.packets.Packet.{Packet}
use Rattle.cluster_node.specs.declared.outcomes.Outcome.{Outcome}
use Rattle.cluster_core.specs.Totals.{came_all, went_all}
use Rattle.cluster_core.proofs.Balanced.{lists_balance}
use Rattle.cluster_core.specs.Cluster.{WereRead}
use Rattle.event_trace.specs.Tally.{tally_of}
use Rattle.driver_commands.specs.Orders.{orders_of, plan_of}
use Rattle.thread_records.specs.declared.command.Command.{Command}
use Rattle.thread_records.specs.declared.nodes.NodeRecord.{NodeRecord}
use Rattle.thread_records.specs.declared.nodes.History.{History}
use Rattle.thread_records.specs.Runs.{JoinsRuns}
use Rattle.scenario.specs.declared.plan.Scenario.{Scenario}
use Rattle.simulate_scenario.specs.Described.{choice_in, plan_in}
use Rattle.event_trace.specs.declared.steps.ScenarioStep.{ScenarioStep}
use Rattle.simulation.specs.declared.sending.Wire.{Wire}
use Rattle.simulation.specs.Sent.{packets_of}
use Rattle.simulation.specs.Simulated.{traffic_of}
use Rattle.simulation.specs.Wires.{traffic}
use Rattle.spreader.specs.Choices.{Choice}
use Rattle.run_scenario.specs.Runs.{packets_in, tally_in, steps_in}
use Rattle.run_records.specs.Sends.{sent_by_nodes}

pub same_orders : {X E : Type 0} (r : Result X E) (cs : X → List (List Command)) (choice choice' : Choice) (packets : List Packet) (steps steps' : List ScenarioStep) (n n' : ℕ) → choice ≡ choice' → steps ≡ steps' → n ≡ n'
    → IfOk r (λ o. cs o ≡ orders_of choice packets steps n) → IfOk r (λ o. cs o ≡ orders_of choice' packets steps' n')
same_orders r cs choice choice' packets steps steps' n n' e f h o =
    subst (λ (x : ℕ). IfOk r (λ o. cs o ≡ orders_of choice' packets steps' x)) h
    (subst (λ (x : List ScenarioStep). IfOk r (λ o. cs o ≡ orders_of choice' packets x n)) f
    (subst (λ (x : Choice). IfOk r (λ o. cs o ≡ orders_of x packets steps n)) e o))

pub packets_are : (s : Scenario) (w : Wire) (link : Link) (records : List Record) → w.link ≡ link → w.check ≡ s.check → packets_of w.link w.check records ≡ packets_in s link records
packets_are s w link records e f =
    ap (λ (l : Link). packets_of l w.check records) e
    ∙ ap (λ b. packets_of link b records) f

pub tally_is : (s : Scenario) (link : Link) (records : List Record) (ps : List Packet) → ps ≡ packets_in s link records → tally_of (length ps) (plan_of (choice_in s) ps (steps_in s records) (length s.nodes.items)) ≡ tally_in s link records
tally_is s link records ps e =
    ap (λ (l : List Packet). tally_of (length l) (plan_of (choice_in s) l (steps_in s records) (length s.nodes.items))) e
    ∙ ap (λ (n : ℕ). tally_of n (plan_of (choice_in s) (packets_in s link records) (steps_in s records) (length s.nodes.items))) (length-map records _)

pub same_sends : (s : Scenario) (w : Wire) (link : Link) (records : List Record) (ns ns' : List NodeRecord) → w.nodes.now ≡ s.nodes.items → w.link ≡ link → w.check ≡ s.check → ns ≡ ns'
    → sent_by_nodes (traffic w records) ns ≡ sent_by_nodes (traffic_of (plan_in s) link records) ns'
same_sends s w link records ns ns' d e f k =
    ap (λ (l : List ℕ). sent_by_nodes (record { nodes = l; link = w.link; check = w.check; records = records }) ns) d
    ∙ ap (λ (l : Link). sent_by_nodes (record { nodes = s.nodes.items; link = l; check = w.check; records = records }) ns) e
    ∙ ap (λ b. sent_by_nodes (record { nodes = s.nodes.items; link = link; check = b; records = records }) ns) f
    ∙ ap (λ (l : List NodeRecord). sent_by_nodes (traffic_of (plan_in s) link records) l) k

pub balanced : (rules : Rules) (packets : List Packet) (nodes : List NodeRecord) (history : History) (os : List Outcome) → WereRead packets → JoinsRuns rules packets nodes history → os ≡ history.outcomes.items → went_all os ≤ came_all os
balanced rules packets nodes history os read joined e = subst (λ (l : List Outcome). went_all l ≤ came_all l) (sym (e ∙ joined.told)) (lists_balance rules packets history.events.items read)
