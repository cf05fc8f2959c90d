use Rattle.std.proofs.Common.{◌≡◌, ℕ, drop, length, map}
use Rattle.event_trace.specs.Room.{Counted}
use Rattle.event_trace.specs.Steps.{SameChoice, world_of, run}
use Rattle.driver_commands.specs.Noting.{noting}
use Rattle.driver_commands.specs.Orders.{events_of, orders_in}
use Rattle.driver_commands.proofs.drivers.tell_steps.Given as goal

abbrev pub invariant-loop-step : goal.invariant-loop-step
invariant-loop-step g l = record {
  choice : SameChoice (g.P.Spread.choice l.initial.play.spread) (g.P.Spread.choice l.play.spread);
  counted : Counted (length l.packets) l.step-index l.play.trace;
  told : (nodes : ℕ) → map (λ c. c.items) l.initial.commands.items ≡ orders_in nodes (events_of l.initial.play.trace) → map (λ c. c.items) l.commands.items ≡ orders_in nodes (events_of l.play.trace);
  rest : run (world_of noting (g.P.Spread.choice l.initial.play.spread) l.packets) (drop l.step-index l.steps) l.play.trace
      ≡ run (world_of noting (g.P.Spread.choice l.initial.play.spread) l.packets) l.steps l.initial.play.trace;
}
