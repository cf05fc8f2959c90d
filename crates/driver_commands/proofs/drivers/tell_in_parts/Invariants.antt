use Rattle.std.proofs.Common.{◌≡◌, ℕ, ◌*◌, ◌^◌, length, map}
use Rattle.event_trace.specs.declared.steps.ScenarioStep.TheVariants.{Take}
use Rattle.event_trace.specs.Going.{GoesOver}
use Rattle.event_trace.specs.Room.{Counted}
use Rattle.event_trace.specs.Steps.{SameChoice, after}
use Rattle.driver_commands.specs.Noting.{noting}
use Rattle.driver_commands.specs.Orders.{events_of, orders_in}
use Rattle.driver_commands.proofs.drivers.tell_in_parts.Given as goal

abbrev pub invariant-loop : goal.invariant-loop
invariant-loop g l = record {
  choice : SameChoice (g.P.Spread.choice l.initial.play.spread) (g.P.Spread.choice l.play.spread);
  counted : Counted (length l.packets) (2 ^ 32) l.play.trace;
  taken : GoesOver l.packets noting (g.P.Spread.choice l.initial.play.spread) (λ w. after w (Take (l.counter * 1024))) l.initial.play.trace l.play.trace;
  told : (nodes : ℕ) → map (λ c. c.items) l.initial.commands.items ≡ orders_in nodes (events_of l.initial.play.trace) → map (λ c. c.items) l.commands.items ≡ orders_in nodes (events_of l.play.trace);
}
