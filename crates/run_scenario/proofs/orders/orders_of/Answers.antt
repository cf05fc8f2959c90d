use Rattle.std.proofs.Common.{◌≡◌, ◌∙◌, List, length, map, ap, subst, arith}
use Rattle.std.specs.Prelude.{IfOk}
use Rattle.event_trace.specs.declared.play.Tally.{Tally}
use Rattle.event_trace.specs.Trace.{Trace}
use Rattle.event_trace.specs.Tally.{tally_of}
use Rattle.event_trace.specs.declared.steps.ScenarioStep.{ScenarioStep}
use Rattle.thread_records.specs.declared.command.Command.{Command}
use Rattle.driver_commands.specs.Orders.{plan_of, orders_of}
use Rattle.simulation.specs.Sent.{time_of}
use Rattle.simulate_scenario.specs.Described.{choice_in}
use Rattle.run_scenario.specs.Runs.{steps_in}
use Rattle.driver_commands.proofs.Copied.{as_many, plan_copies, orders_copies}
use Rattle.run_scenario.proofs.orders.orders_of.Goals as goal

pub orders_by-requires-clause-steps : goal.orders_by-requires-clause-steps
orders_by-requires-clause-steps c =
    let s = c.args.scenario.now in
    let as_given : length c.as_slice.result.now ≡ length c.in_ok-steps.steps.items = ap (λ l. length l) c.as_slice.ensures.value in
    let many : length c.in_ok-steps.steps.items ≡ length s.steps.items = as_many (map time_of c.args.records.now) s.steps.items c.in_ok-steps.steps.items c.in_ok-steps.ensures in
    omega (arith, as_given, many, c.args.scenario.now.limits.most_steps)

pub returns-clause-commands : goal.returns-clause-commands
returns-clause-commands c =
    let s = c.args.scenario.now in
    let packets = c.args.packets.now in
    let n = length s.nodes.items in
    let same = ap (λ (l : List ScenarioStep). orders_of (choice_in s) packets l n) c.as_slice.ensures.value
    ∙ orders_copies (choice_in s) packets c.in_ok-steps.steps.items (steps_in s c.args.records.now) n c.in_ok-steps.ensures in
    subst (λ (x : List (List Command)). IfOk c.orders_by.result (λ o. map (λ l. l.items) o.commands.items ≡ x)) same c.orders_by.ensures.commands

pub returns-clause-tally : goal.returns-clause-tally
returns-clause-tally c =
    let s = c.args.scenario.now in
    let packets = c.args.packets.now in
    let n = length s.nodes.items in
    let same = ap (λ (l : List ScenarioStep). tally_of (length packets) (plan_of (choice_in s) packets l n)) c.as_slice.ensures.value
    ∙ ap (λ (t : Trace). tally_of (length packets) t) (plan_copies (choice_in s) packets c.in_ok-steps.steps.items (steps_in s c.args.records.now) n c.in_ok-steps.ensures) in
    subst (λ (x : Tally). IfOk c.orders_by.result (λ o. o.tally ≡ x)) same c.orders_by.ensures.tally
