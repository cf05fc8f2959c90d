use Rattle.std.proofs.Common.{List, ◌≡◌, ◌-◌}
use Rattle.cluster_node.specs.declared.events.LogEntry.{LogEntry}
use Rattle.cluster_core.specs.Cluster.{Behind}
use Rattle.event_trace.specs.Steps.{World, drain_from}
use Rattle.event_trace.proofs.play.Play.drain.Given as goal

abbrev pub invariant-loop-worker : goal.invariant-loop-worker
invariant-loop-worker g l = record {
  stands : g.C.Core.stands l.setup l.self.trace.past l.core;
  spread : l.self.spread ≡ l.initial.self.spread;
  told : (before : List LogEntry) → Behind before l.initial.self.trace.past l.initial.events.items → Behind before l.self.trace.past l.events.items;
  rest : (w : World) → w.cluster ≡ g.C.Core.cluster l.setup → drain_from w l.node l.worker (l.workers - l.worker) l.self.trace ≡ drain_from w l.node 0 l.workers l.initial.self.trace;
}
