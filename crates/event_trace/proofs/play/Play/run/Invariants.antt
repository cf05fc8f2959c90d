use Rattle.std.proofs.Common.{List, ◌≡◌, drop, length}
use Rattle.cluster_node.specs.declared.events.LogEntry.{LogEntry}
use Rattle.cluster_core.specs.Cluster.{Behind}
use Rattle.event_trace.specs.Steps.{SameChoice, world_of, run}
use Rattle.event_trace.specs.Room.{Counted}
use Rattle.event_trace.proofs.play.Play.run.Given as goal

abbrev pub invariant-loop-step : goal.invariant-loop-step
invariant-loop-step g l = record {
  stands : g.C.Core.stands l.setup l.self.trace.past l.core;
  told : (before : List LogEntry) → Behind before l.initial.self.trace.past l.initial.events.items → Behind before l.self.trace.past l.events.items;
  choice : SameChoice (g.P.Spread.choice l.initial.self.spread) (g.P.Spread.choice l.self.spread);
  counted : Counted (length l.packets) l.step-index l.self.trace;
  rest : run (world_of (g.C.Core.cluster l.setup) (g.P.Spread.choice l.initial.self.spread) l.packets) (drop l.step-index l.steps) l.self.trace
      ≡ run (world_of (g.C.Core.cluster l.setup) (g.P.Spread.choice l.initial.self.spread) l.packets) l.steps l.initial.self.trace;
}
