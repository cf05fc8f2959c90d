use Rattle.std.proofs.Common.{List, ◌≡◌, ◌-◌}
use Rattle.cluster_node.specs.declared.events.LogEntry.{LogEntry}
use Rattle.cluster_core.specs.Cluster.{Behind}
use Rattle.event_trace.specs.Steps.{World, serve_times}
use Rattle.event_trace.proofs.play.Play.serve_times.Given as goal

abbrev pub invariant-loop : goal.invariant-loop
invariant-loop g l = record {
  stands : g.C.Core.stands l.setup l.self.trace.past l.core;
  spread : l.self.spread ≡ l.initial.self.spread;
  told : (before : List LogEntry) → Behind before l.initial.self.trace.past l.initial.events.items → Behind before l.self.trace.past l.events.items;
  rest : (w : World) → w.cluster ≡ g.C.Core.cluster l.setup → serve_times w l.node l.worker (l.times - l.counter) l.self.trace ≡ serve_times w l.node l.worker l.times l.initial.self.trace;
}
