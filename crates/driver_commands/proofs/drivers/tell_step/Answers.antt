use Rattle.std.proofs.Common.{List, reverse, sym, ◌∙◌, ap, subst}
use Rattle.cluster_node.specs.declared.events.LogEntry.{LogEntry}
use Rattle.cluster_core.specs.Cluster.{Behind}
use Rattle.driver_commands.specs.Orders.{events_of, orders_in}
use Rattle.driver_commands.proofs.Telling.{events_behind, none_behind}
use Rattle.driver_commands.proofs.drivers.tell_step.Goals as goal

pub returns-clause-told : goal.returns-clause-told
returns-clause-told g c =
    let past = c.args.play.now.trace.past in
    let none : Behind (reverse past) past c.clear.new.self.items =
    subst (λ (es : List LogEntry). Behind (reverse past) past es) (sym c.clear.ensures.items) (none_behind past) in
    let behind : Behind (reverse past) c.step.new.self.trace.past c.as_slice.result.now =
    subst (λ (es : List LogEntry). Behind (reverse past) c.step.new.self.trace.past es) (sym c.as_slice.ensures.value) (c.in_ok-step.ensures.told (reverse past) none) in
    λ nodes before. c.in_ok-tell_all.ensures nodes (events_of c.args.play.now.trace) before
    ∙ ap (orders_in nodes) (events_behind c.args.play.now.trace c.step.new.self.trace c.as_slice.result.now behind)
