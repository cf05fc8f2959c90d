use Rattle.std.proofs.Common.{List, ◌≡◌, ◌+◌, ◌≤◌, drop}
use Rattle.cluster_node.specs.declared.events.LogEntry.{LogEntry}
use Rattle.cluster_core.specs.Cluster.{Behind}
use Rattle.event_trace.specs.Steps.{World, SameChoice, take_all}
use Rattle.event_trace.proofs.play.Play.take_all.Given as goal

abbrev pub invariant-loop-packet : goal.invariant-loop-packet
invariant-loop-packet g l = record {
  stands : g.C.Core.stands l.setup l.self.trace.past l.core;
  spread : l.self.spread ≡ l.initial.self.spread;
  told : (before : List LogEntry) → Behind before l.initial.self.trace.past l.initial.events.items → Behind before l.self.trace.past l.events.items;
  read : l.self.trace.read ≡ l.initial.self.trace.read + l.packet-index;
  nth : l.self.trace.nth ≡ l.initial.self.trace.nth + l.packet-index;
  unrouted : l.self.trace.unrouted ≤ l.initial.self.trace.unrouted + l.packet-index;
  rest : (w : World) → w.cluster ≡ g.C.Core.cluster l.setup → SameChoice w.choice (g.P.Spread.choice l.initial.self.spread) → take_all w (drop l.packet-index l.packets) l.self.trace ≡ take_all w l.packets l.initial.self.trace;
}
