use Rattle.std.proofs.Common.{◌≡◌, List, length, sym, ap, ◌∙◌, rules, map}
use Rattle.std.proofs.lemmas.List.{length-map}
use Rattle.thread_records.specs.declared.command.Command.{Command}
use Rattle.event_trace.specs.Trace.{Trace}
use Rattle.event_trace.specs.Tally.{tally_of}
use Rattle.driver_commands.specs.Orders.{events_of, orders_in, plan_of}
use Rattle.driver_commands.proofs.Telling.{orders_long, orders_none, played}
use Rattle.driver_commands.proofs.Alike.{told_anywhere}
use Rattle.driver_commands.proofs.Ending.{end_all}
use Rattle.driver_commands.proofs.Lives.{all_ends_told}
use Rattle.driver_commands.proofs.Offered.{told_are_there}
use Rattle.driver_commands.proofs.drivers.orders.Goals as goal

pub end_as-requires : goal.end_as-requires
end_as-requires g c =
    sym (length-map c.tell_steps.new.commands.items (λ v. v.items))
    ∙ ap (λ (css : List (List Command)). length css) (c.in_ok-tell_steps.ensures.told c.args.nodes
    (c.in_ok-commands.ensures ∙ orders_none c.args.nodes ∙ ap (λ (d : Trace). orders_in c.args.nodes (events_of d)) (sym c.in_ok-play.ensures.trace)))
    ∙ orders_long c.args.nodes _

pub returns-clause-commands : goal.returns-clause-commands
returns-clause-commands g c =
    let told : map (λ v. v.items) c.tell_steps.new.commands.items ≡ orders_in c.args.nodes (events_of (plan_of (g.P.Spread.choice c.args.spread) c.args.packets.now c.args.steps.now c.args.nodes)) =
    c.in_ok-tell_steps.ensures.told c.args.nodes (c.in_ok-commands.ensures ∙ orders_none c.args.nodes ∙ ap (λ (d : Trace). orders_in c.args.nodes (events_of d)) (sym c.in_ok-play.ensures.trace))
    ∙ ap (λ (d : Trace). orders_in c.args.nodes (events_of d)) (played (λ s. g.P.Spread.choice s) c.in_ok-play.play.spread c.args.spread c.in_ok-play.play.trace c.tell_steps.new.play.trace c.args.packets.now c.args.steps.now c.args.nodes c.in_ok-tell_steps.ensures.run c.in_ok-play.ensures.spread c.in_ok-play.ensures.trace) in
    end_all c.args.steps.now c.args.nodes (events_of (plan_of (g.P.Spread.choice c.args.spread) c.args.packets.now c.args.steps.now c.args.nodes)) (map (λ v. v.items) c.tell_steps.new.commands.items) (map (λ v. v.items) c.end_as.new.commands.items) told c.in_ok-end_as.ensures

pub returns-clause-tally : goal.returns-clause-tally
returns-clause-tally g c =
    c.tally.ensures
    ∙ ap (λ (d : Trace). tally_of (length c.args.packets.now) d) (played (λ s. g.P.Spread.choice s) c.in_ok-play.play.spread c.args.spread c.in_ok-play.play.trace c.tell_steps.new.play.trace c.args.packets.now c.args.steps.now c.args.nodes c.in_ok-tell_steps.ensures.run c.in_ok-play.ensures.spread c.in_ok-play.ensures.trace)

pub returns-clause-anywhere : goal.returns-clause-anywhere
returns-clause-anywhere g c =
    λ cluster. told_anywhere (λ v. v.items) (g.P.Spread.choice c.args.spread) c.args.packets.now c.args.steps.now c.args.nodes c.end_as.new.commands.items c.tally.result cluster (returns-clause-commands g c) (search rules)

pub returns-clause-ends : goal.returns-clause-ends
returns-clause-ends g c = all_ends_told (λ v. v.items) (g.P.Spread.choice c.args.spread) c.args.packets.now c.args.steps.now c.args.nodes c.end_as.new.commands.items (returns-clause-commands g c)

pub returns-clause-there : goal.returns-clause-there
returns-clause-there g c = told_are_there (λ v. v.items) (g.P.Spread.choice c.args.spread) c.args.packets.now c.args.steps.now c.args.nodes c.end_as.new.commands.items (returns-clause-commands g c)
